-- The layout of a record: its numbers at fixed offsets, and where the parts after them begin.
use Rattle.std.specs.Prelude.{ℕ, ◌+◌, ◌-◌, ◌*◌, ◌/◌, List, ℤ, take, drop}
use Rattle.fields.specs.Number.{unsigned, signed32}
use Rattle.fields.specs.declared.Layout.{Layout}

-- the numbers that stand before the name
pub record Header : Type 0 where
  pub ref_id : ℤ
  pub pos : ℤ
  pub name_length : ℕ
  pub mapq : ℕ
  pub bin : ℕ
  pub operation_count : ℕ
  pub flags : ℕ
  pub l_seq : ℕ
  pub mate_id : ℤ
  pub mate_pos : ℤ
  pub template_length : ℤ

-- each field from its width and its offset
abbrev pub header : List ℕ → Header
header s =
    record {
      ref_id = signed32 (unsigned 4 s 0);
      pos = signed32 (unsigned 4 s 4);
      name_length = unsigned 1 s 8;
      mapq = unsigned 1 s 9;
      bin = unsigned 2 s 10;
      operation_count = unsigned 2 s 12;
      flags = unsigned 2 s 14;
      l_seq = unsigned 4 s 16;
      mate_id = signed32 (unsigned 4 s 20);
      mate_pos = signed32 (unsigned 4 s 24);
      template_length = signed32 (unsigned 4 s 28);
    }

-- the name: its length minus 1 bytes from 32 on, none for the lengths 0 and 1
unfoldable pub name_in : List ℕ → List ℕ
name_in s = take ((header s).name_length - 1) (drop 32 s)

-- the name begins at 32; after it the operations
abbrev pub operations_at : List ℕ → ℕ
operations_at s = 32 + (header s).name_length

-- after 4 bytes per operation the bases
abbrev pub bases_at : List ℕ → ℕ
bases_at s = operations_at s + 4 * (header s).operation_count

-- after (l_seq + 1) / 2 rounded down bytes of bases the qualities
abbrev pub qualities_at : List ℕ → ℕ
qualities_at s = bases_at s + ((header s).l_seq + 1) / 2

-- after l_seq qualities the tags
abbrev pub tags_at : List ℕ → ℕ
tags_at s = qualities_at s + (header s).l_seq

-- where the parts of s begin, and how many bases it has
abbrev pub layout_of : List ℕ → Layout
layout_of s = record { operations = operations_at s; bases = bases_at s; qualities = qualities_at s; count = (header s).l_seq }

-- `filed::write_filed` meets its contract. Assumes nothing.
use native.Mathlib.Omega.{arith}
use Rattle.filed.proofs.WriteLaws.{front_length, front_placed, front_end, final, filed_to}
use Rattle.filed.proofs.write_filed.Goals as goal

pub write_frames-applied-requires : goal.write_frames-applied-requires
write_frames-applied-requires c =
    let b = c.requires.0 in
    (front_placed _ _ b, c.requires.1, omega (arith, front_end _ _ b, b.size, c.requires.2), c.requires.3)

pub put_trailer-requires : goal.put_trailer-requires
put_trailer-requires c =
    let b = c.requires.0 in
    let size = front_length _ _ b in (
      omega (arith, size, b.size),
      omega (arith, size, b.size, c.requires.2, c.write_frames-applied.auto.out),
      final _ _ b _ _ _ _ c.write_frames-applied.ensures,
    )

pub returns : goal.returns
returns c =
    let b = c.requires.0 in
    filed_to _ _ b _ _ _ _ c.write_frames-applied.ensures _ (rw (front_length _ _ b) at c.put_trailer.ensures)

-- `console::read_all` meets its contract. Assumes nothing.
use Rattle.std.proofs.Common.{rules, ◌≡◌, ℕ, ◌+◌, ◌-◌, ◌≤◌, List, ◌++◌, length, take, sym, ap, ◌∙◌, append_assoc}
use Rattle.std.specs.Prelude.{Option, None, Some}
use Rattle.std.specs.Io.KnownBytes.{Consumes}
use Rattle.std.proofs.lemmas.List.{take-append-le}
use Rattle.std.proofs.Math.Seq.{take-append-add}
use lib.Seq.{length-take-le}
use borrow.Rule.Slice.PartMut.{put_mid}
use Rattle.console.proofs.ReadLaws.{handed}
use Rattle.console.proofs.read_all.Goals as goal

-- m bytes more stand behind the first n
moved : (s b : List ℕ) (n m : ℕ) → n ≤ length s → m ≤ length b → take (n + m) (put_mid n (length s - n) s b) ≡ take n s ++ take m b
moved s b n m h k =
    ap (λ (i : ℕ). take (i + m) (put_mid n (length s - n) s b)) (sym (length-take-le n s h))
    ∙ take-append-add (take n s) _ m
    ∙ ap (λ (t : List ℕ). take n s ++ t) (take-append-le m b _ k)

-- what was given, and then what was given next
further : (a b c : Option (List ℕ)) (xs ys : List ℕ) → Consumes a b xs → Consumes b c ys → Consumes a c (xs ++ ys)
further None b c xs ys p q = tt
further (Some x) None c xs ys p q = absurd p
further (Some x) (Some y) None xs ys p q = absurd q
further (Some x) (Some y) (Some z) xs ys p q = p ∙ ap (λ (t : List ℕ). xs ++ t) q ∙ sym (append_assoc xs ys z)

pub loop-n-preserved : goal.loop-n-preserved
loop-n-preserved g c =
    let loop = c.loop-n in
    let read = handed c.read.result c.in_ok-more.more (length loop.room - loop.n) (g.R.Read.remaining loop.input) (g.R.Read.remaining c.read.new.self) c.read.new.buf c.in_ok-more.ensures (search rules) c.read.ensures.bound c.read.ensures.bytes in
    record {
      within = search rules;
      given =
          rw (moved loop.room c.read.new.buf loop.n c.in_ok-more.more loop.invariant.within read.0)
          (further (g.R.Read.remaining c.args.input.now) (g.R.Read.remaining loop.input) (g.R.Read.remaining c.read.new.self) _ _ loop.invariant.given read.1);
    }

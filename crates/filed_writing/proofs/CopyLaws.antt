-- A pair call on the fronts of two rooms that hold copies of the records.
use Prim.Native.Nat.{ℕ}
use mathlib.Core.Path.{◌≡◌, ◌∙◌, ap}
use mathlib.Core.List.{List, ◌++◌}
use lib.ListN.{length, take, drop}
use lib.Seq.{take_at}
use Rattle.strategy.specs.declared.Strategies.{Strategies}
use Rattle.pair_judgement.specs.Ready.{Cleared}
use Rattle.group_applying.specs.declared.Applied.{Applied}
use Rattle.filed_writing.specs.Written.{Treats, Copied}

-- ---- a copy c of a at the front of a room
module _ (room a c : List ℕ) (same : c ≡ a) where
  pub front_is : take (length a) (c ++ drop (length a) room) ≡ a
  front_is = take_at c (drop (length a) room) (length a) (ap length same) ∙ same

  -- what takes its place
  front_put : (f : List ℕ) → length f ≡ length (take (length a) (c ++ drop (length a) room)) → take (length a) (f ++ drop (length a) (c ++ drop (length a) room)) ≡ f
  front_put f l = take_at f (drop (length a) (c ++ drop (length a) room)) (length a) (l ∙ ap length front_is)

-- ---- both rooms before and after two copies are treated
module _ (w : Strategies) (a b left right c d : List ℕ) (ec : c ≡ a) (ed : d ≡ b) where
  pub copies_cleared : Cleared a b → Cleared (take (length a) (c ++ drop (length a) left)) (take (length b) (d ++ drop (length b) right))
  copies_cleared k = rw (front_is left a c ec, front_is right b d ed) k

  pub copied : (r : Applied) (f v : List ℕ)
      → Treats w (take (length a) (c ++ drop (length a) left)) (take (length b) (d ++ drop (length b) right)) f v r
      → length f ≡ length (take (length a) (c ++ drop (length a) left))
      → length v ≡ length (take (length b) (d ++ drop (length b) right))
      → Copied w a b (f ++ drop (length a) (c ++ drop (length a) left)) (v ++ drop (length b) (d ++ drop (length b) right)) r
  copied r f v q lf lv =
      let t : Treats w a b f v r = rw (front_is left a c ec, front_is right b d ed) at q in
      record {
        first = front_put left a c ec f lf ∙ t.first;
        second = front_put right b d ed v lv ∙ t.second;
        adds = t.adds;
      }

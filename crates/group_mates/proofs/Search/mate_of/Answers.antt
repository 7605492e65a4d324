-- `group_mates::Search::mate_of` meets its contract. Assumes nothing.
use mathlib.Core.Path.{sym, ◌∙◌}
use Rattle.group_mates.specs.Register.{role_at, name_at}
use Rattle.group_mates.specs.Role.{one_more}
use Rattle.group_mates.proofs.RoleLaws.{other_index, same_index}
use Rattle.group_mates.proofs.KeyLaws.{role_of_key, mate_none, mate_superseded, mate_held}
use native.Mathlib.Omega.{arith}
use Rattle.group_mates.proofs.Search.mate_of.Goals as goal

pub returns-then-self-i : goal.returns-then-self-i
returns-then-self-i c =
    let args = c.args in
    let s = args.self.now.frames.bytes.now in (
      mate_none (role_at s) (name_at s) args.self.now.frames.count args.i
          (λ z. c.if-self-i.true (role_of_key s args.self.now.key.now args.self.now.frames.count args.i args.self.now.keyed c.requires ∙ z ∙ sym c.number.ensures)),
      omega arith,
    )

pub holder_of-requires : goal.holder_of-requires
holder_of-requires c =
    let search = c.args.self.now in
    let role = sym (role_of_key search.frames.bytes.now search.key.now search.frames.count c.args.i search.keyed c.requires) ∙ c.if-self-i.false ∙ c.number.ensures in
    (c.requires, role)

pub returns-then-ne : goal.returns-then-ne
returns-then-ne c =
    let search = c.args.self.now in
    let s = search.frames.bytes.now in (
      mate_superseded (role_at s) (name_at s) search.frames.count c.args.i (one_more c.holder_of.result)
          (sym (role_of_key s search.key.now search.frames.count c.args.i search.keyed c.requires) ∙ c.if-self-i.false ∙ c.number.ensures)
          c.holder_of.ensures.0 (other_index c.holder_of.result c.args.i (sym c.ne.ensures ∙ c.if-ne.true)),
      omega arith,
    )

pub holder_of-requires-2 : goal.holder_of-requires-2
holder_of-requires-2 c =
    let search = c.args.self.now in
    let role = sym (role_of_key search.frames.bytes.now search.key.now search.frames.count c.args.i search.keyed c.requires) ∙ c.if-self-i.false ∙ c.number.ensures in
    (c.requires, role)

pub returns : goal.returns
returns c =
    let search = c.args.self.now in
    let s = search.frames.bytes.now in (
      mate_held (role_at s) (name_at s) search.frames.count c.args.i (one_more c.holder_of.result) (one_more c.holder_of-2.result)
          (sym (role_of_key s search.key.now search.frames.count c.args.i search.keyed c.requires) ∙ c.if-self-i.false ∙ c.number.ensures)
          c.holder_of.ensures.0 (same_index c.holder_of.result c.args.i (sym c.ne.ensures ∙ c.if-ne.false)) c.holder_of-2.ensures.0,
      c.holder_of-2.ensures.1,
    )

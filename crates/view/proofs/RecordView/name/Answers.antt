-- `view::RecordView::name` meets its contract: a record that can be viewed has the part, each other one the empty part. Assumes nothing.
use Rattle.view.proofs.ViewLaws.{well_lies, well_named, refused_unnamed}
use mathlib.Core.Path.{sym, ◌∙◌}
use Rattle.view.proofs.RecordView.name.Goals as goal

pub name_of-requires : goal.name_of-requires
name_of-requires c = well_lies _ (sym c.refused.ensures ∙ c.in-Ok.is)

pub returns-in-Ok : goal.returns-in-Ok
returns-in-Ok c = c.name_of.ensures ∙ well_named _ (sym c.refused.ensures ∙ c.in-Ok.is)

pub returns-in-Err : goal.returns-in-Err
returns-in-Err c = refused_unnamed _ _ (sym c.refused.ensures ∙ c.in-Err.is)

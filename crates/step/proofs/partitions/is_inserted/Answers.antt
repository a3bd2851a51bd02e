-- The position is compared only once each partition is found sound, or the second absent: so the current one has a trailer.
-- Assumes nothing.
use mathlib.Core.Logic.{inl, inr}
use mathlib.Core.Path.{sym, ◌∙◌}
use Rattle.answers.proofs.First.{not_both}
use Rattle.step.proofs.Looked.{trailed_by}
use Rattle.step.proofs.partitions.is_inserted.Goals as goal
use Rattle.step.proofs.partitions.is_inserted.Goals.{then-is_sound+in-1, then-is_sound+in_default, else-is_sound}

pub count_of-requires : goal.count_of-requires
count_of-requires c =
    rw c.current.ensures
    (elim c.if-is_sound.branch [
      | then-is_sound+in-1 w ↦ trailed_by _ _ _ c.requires c.if-d-eq0.false (sym c.is_sound.ensures ∙ w.if-is_sound.true) (inl w.in-1.is)
      | then-is_sound+in_default w ↦ trailed_by _ _ _ c.requires c.if-d-eq0.false (sym c.is_sound.ensures ∙ w.if-is_sound.true) (inr (sym w.is_sound-in_default.ensures ∙ sym w.value-is ∙ c.if-is_sound-2.true))
      | else-is_sound w ↦ absurd (not_both (sym c.if-is_sound-2.true ∙ w.value-is ∙ w.if-is_sound.false))
    ])

-- How long a reply is, whatever is seen.
-- Assumes nothing.
use Prim.Native.Nat.{ℕ, min}
use mathlib.Core.Path.{◌≡◌, refl, ap, ◌∙◌}
use mathlib.Core.Bool.{Bool, true, false, cond}
use mathlib.Core.List.{List, [], ◌∷◌}
use lib.Dec.{eqb}
use lib.ListN.{length, length-take}
use Rattle.words.specs.Words.{bytes}
use Rattle.record.specs.declared.drive.Drive.{Drive}
use Rattle.codes.specs.declared.operation.Operation.{Operation}
use Rattle.codes.specs.declared.operation.Operation.TheVariants.{RequestSense, ReadBlockLimits, ModeSense, ReadPosition}
use Rattle.codes.specs.Fields.{allocation_of, dbd_of, form_of}
use Rattle.commands.specs.Parameters.{header_length, whole_length, block_limits, mode_data, short_position, long_position}
use Rattle.commands.specs.Kinds.{among}
use Rattle.commands.specs.Act.{Seen, short_form, sense_reply, reply_of}
use Rattle.commands.specs.Tests.{reply_length}

chosen_length : (t : Bool) (x y : List ℕ) (a b : ℕ) → length x ≡ a → length y ≡ b → length (cond t x y) ≡ cond t a b
chosen_length true x y a b ex ey = ex
chosen_length false x y a b ex ey = ey

mode_length_lem : (t g : Bool) (n : ℕ) → length (mode_data t g n) ≡ cond t header_length whole_length
unfolding mode_data bytes
mode_length_lem true g n = refl
mode_length_lem false g n = refl

pub reply_length_lem : (o : Operation) (d : Drive) (cmd : List ℕ) (v : Seen) → length (reply_of o d cmd v) ≡ reply_length o d cmd
unfolding reply_of reply_length block_limits short_position long_position bytes
reply_length_lem o d cmd v =
    chosen_length (among (RequestSense ∷ []) o) _ _ _ _ (length-take (allocation_of cmd) (sense_reply d cmd))
    (chosen_length (among (ReadBlockLimits ∷ []) o) _ _ _ _ refl
    (chosen_length (among (ModeSense ∷ []) o) _ _ _ _
    (length-take (allocation_of cmd) (mode_data (dbd_of cmd) v.guarded d.block_length) ∙ ap (min (allocation_of cmd)) (mode_length_lem (dbd_of cmd) v.guarded d.block_length))
    (chosen_length (among (ReadPosition ∷ []) o) _ _ _ _ (chosen_length (eqb (form_of cmd) short_form) _ _ _ _ refl refl) refl)))

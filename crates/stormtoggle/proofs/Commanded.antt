-- The command on a record of the right length is that of the drive that it stands for, with the record written anew unless it is refused; and what it
-- answers fits its fields.
-- Assumes nothing.
use Prim.Native.Nat.{ℕ}
use mathlib.Core.Path.{◌≡◌, refl, sym, ap, ◌∙◌, subst}
use mathlib.Core.List.{List}
use borrow.Author.Tests.{eq-eqb, ne_eqb}
use lib.ListN.{length}
use Rattle.answers.specs.declared.Answer.{Answer}
use Rattle.answers.specs.declared.Refusal.{Refusal}
use Rattle.answers.specs.Answers.{refused, number_of, InFields}
use Rattle.record.specs.declared.drive.Drive.{Drive}
use Rattle.record.specs.Record.{record_length, well_record, decode_of}
use Rattle.commands.specs.Call.{Lent, Outcome, outcome, Result, result_of, written, drive_call, command_call}
use Rattle.commands.proofs.Crossed.{call_fits}
use Rattle.step.proofs.Refused.{is_number}

module _ (rec : List ℕ) (x : Lent) (k : length rec ≡ record_length) (d : Drive) (ed : d ≡ decode_of rec) where
  pub served_so : (o : Outcome) → o ≡ drive_call d x → written rec o ≡ command_call rec x
  unfolding command_call drive_call well_record
  served_so o e = ap (written rec) (e ∙ ap (λ (e : Drive). drive_call e x) ed) ∙ rw (eq-eqb (length rec) record_length k) refl

  pub refused_so : (r : Refusal) (y : Lent) → outcome (refused (number_of r)) d y ≡ drive_call d x → result_of (refused (number_of r)) rec y ≡ command_call rec x
  refused_so r y e = rw (ne_eqb (number_of r) 0 (is_number r)) at (served_so _ e)

pub call_packs : (a : Answer) (after rec : List ℕ) (y x : Lent) → result_of a after y ≡ command_call rec x → InFields a
call_packs a after rec y x e = subst InFields (sym (ap (λ (r : Result). r.answer) e)) (call_fits rec x)

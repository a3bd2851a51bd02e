-- An act by another rule for EOM at end of data: the same, or both meet end of data and differ in what the rule says of that bit.
-- Assumes nothing.
use Prim.Native.Nat.{ℕ, suc}
use native.Mathlib.Omega.{arith}
use mathlib.Core.Path.{◌≡◌, refl, sym, ap, ◌∙◌}
use mathlib.Core.Bool.{Bool, true, false, cond, ◌||◌}
use mathlib.Core.Option.{Option, none, some}
use mathlib.Core.List.{List, []}
use lib.Dec.{eqb}
use lib.IntN.{ℤ, pos, negsuc, sub_ℕ}
use lib.ListN.{length, drop, get_elem?}
use Rattle.objects.specs.Object.{Object, filemark, block}
use Rattle.objects.specs.Movement as M
use Rattle.objects.specs.Transfer.{Ended, whole, odd_length, at_filemark, at_end, Run, run_of}
use Rattle.answers.proofs.First.{not_both}
use Rattle.sense.specs.declared.Sense.{Sense}
use Rattle.sense.specs.Sense.{blank_check, told}
use Rattle.record.specs.declared.drive.Drive.{Drive}
use Rattle.codes.specs.declared.operation.Operation.{Operation}
use Rattle.codes.specs.declared.operation.Operation.TheVariants.{TestUnitReady, Rewind, RequestSense, ReadBlockLimits, Read, Write, WriteFilemarks, Space, ModeSelect, Erase, ModeSense, LoadUnload, Locate, ReadPosition, Space16, Locate16, NotServed}
use Rattle.codes.specs.Fields.{fixed_of, transfer_of, space_code_of, space_count_of, space_count16_of, object_of}
use Rattle.commands.specs.Act.{Seen, Deed, good, checked, at, at_partition, end_told, odd_met, hidden, read_run, read_variable, run_tells, reading, space_tells, movement, spacing, target_of, destination16, locate_tells, locating, act}
use Rattle.exact.specs.EndOfData.{may_meet_end, end_told_by, read_variable_by, run_tells_by, read_run_by, reading_by, space_tells_by, spacing_by, locate_tells_by, locating_by, act_by}
use Rattle.exact.proofs.Tells.{ToldBy, act_tells}

-- with the bytes carried and the objects crossed
abbrev pub deed : Drive → Option Sense → List ℕ → ℕ × ℕ → Deed
deed d t b n = record { drive = d; tells = t; received = b; carried = n.0; crossed = n.1 }

-- ---- what is told elsewhere has another key

abbrev pub Elsewhere : Option Sense → Type 0
Elsewhere t = (s : Sense) → t ≡ some s → s.key ≡ blank_check → ⊥

pub silent : Elsewhere none
silent s e k = let z : ◌≡◌ {A = ℕ} 0 1 = cc in omega arith

pub another : (c f e i : Bool) (key asc ascq : ℕ) (z : ℤ) → (key ≡ blank_check → ⊥) → Elsewhere (some (told c f e i key asc ascq z))
unfolding told
another c f e i key asc ascq z h s q k = let y : told c f e i key asc ascq z ≡ s = cc in h (ap (λ (t : Sense). t.key) y ∙ k)

-- so by every command that may not meet end of data
pub never_there : (o : Operation) → may_meet_end o ≡ false → (t : Option Sense) → ToldBy o t → Elsewhere t
unfolding told
never_there o h none u s q k = silent s q k
never_there o h (some r) u s q k =
    let y : r ≡ s = cc in
    not_both (sym (u.at_end_lem (ap (λ (t : Sense). t.key) (sym u.is ∙ y) ∙ k)) ∙ h)

-- ---- the act as it is, and by the rule

pub data Ending (rule : Seen → Bool) (o : Operation) (v : Seen) (e e' : Deed) : Type 0 where
  elsewhere : Elsewhere e.tells → e' ≡ e → Ending rule o v e e'
  at_end_lem : may_meet_end o ≡ true → (d : Drive) (counts : Bool) (z : ℤ) (b : List ℕ) (n : ℕ × ℕ) → e ≡ deed d (some (end_told counts v z)) b n → e' ≡ deed d (some (end_told_by rule counts v z)) b n → Ending rule o v e e'

module _ (rule : Seen → Bool) (d : Drive) (cmd sent : List ℕ) (v : Seen) where
  run_ends : (w : Ended) (z : ℤ) (e : Drive) (b : List ℕ) (n : ℕ × ℕ) → Ending rule Read v (deed e (run_tells v w z) b n) (deed e (run_tells_by rule v w z) b n)
  unfolding run_tells run_tells_by
  run_ends whole z e b n = elsewhere silent refl
  run_ends odd_length z e b n = elsewhere (another _ _ _ _ _ _ _ _ (λ q. omega arith)) refl
  run_ends at_filemark z e b n = elsewhere (another _ _ _ _ _ _ _ _ (λ q. omega arith)) refl
  run_ends at_end z e b n = at_end_lem refl e true z b n refl refl

  variable_ends : (x : Option Object) → Ending rule Read v (read_variable d cmd v x) (read_variable_by rule d cmd v x)
  unfolding read_variable read_variable_by
  variable_ends none = at_end_lem refl d true (pos (transfer_of cmd)) [] (0, 0) refl refl
  variable_ends (some filemark) = elsewhere (another _ _ _ _ _ _ _ _ (λ q. omega arith)) refl
  variable_ends (some (block bs)) = elsewhere (go (eqb (length bs) (transfer_of cmd) || hidden d cmd (length bs))) refl
    where
      there : Drive
      there = at d (suc d.position)

      go : (t : Bool) → Elsewhere (cond t (good there) (checked there (odd_met (sub_ℕ (transfer_of cmd) (length bs))))).tells
      go true = silent
      go false = another _ _ _ _ _ _ _ _ (λ q. omega arith)

  read_ends : Ending rule Read v (reading d cmd v) (reading_by rule d cmd v)
  unfolding reading reading_by
  read_ends = go (eqb (transfer_of cmd) 0) (fixed_of cmd) (run_of d.block_length (transfer_of cmd) (drop d.position v.objects))
    where
      go : (z f : Bool) (r : Run) → Ending rule Read v
          (cond z (good d) (cond f (read_run d v (transfer_of cmd) r) (read_variable d cmd v (get_elem? v.objects d.position))))
          (cond z (good d) (cond f (read_run_by rule d v (transfer_of cmd) r) (read_variable_by rule d cmd v (get_elem? v.objects d.position))))
      go true f r = elsewhere silent refl
      go false true r = run_ends r.why _ _ _ (length r.bytes, 0)
      go false false r = variable_ends (get_elem? v.objects d.position)

  space_ends : (o : Operation) → may_meet_end o ≡ true → (code : ℕ) (k : ℤ) → Ending rule o v (spacing d code k v) (spacing_by rule d code k v)
  unfolding spacing spacing_by space_tells space_tells_by
  space_ends o h code k = go (movement code k d.position v.objects) (movement code k d.position v.objects).why k
    where
      go : (m : M.Move) (w : M.Why) (k : ℤ) → Ending rule o v
          (deed (at d m.to) (space_tells v k (record { to = m.to; moved = m.moved; why = w; distance = m.distance })) [] (0, m.distance))
          (deed (at d m.to) (space_tells_by rule v k (record { to = m.to; moved = m.moved; why = w; distance = m.distance })) [] (0, m.distance))
      go m M.done k = elsewhere silent refl
      go m M.marked k = elsewhere (another _ _ _ _ _ _ _ _ (λ q. omega arith)) refl
      go m M.edge (pos n) = at_end_lem h _ true _ [] (0, m.distance) refl refl
      go m M.edge (negsuc n) = elsewhere (another _ _ _ _ _ _ _ _ (λ q. omega arith)) refl

  locate_ends : (o : Operation) → may_meet_end o ≡ true → (k : ℕ) (t : M.Destination) → Ending rule o v (locating d k t v) (locating_by rule d k t v)
  unfolding locating locating_by locate_tells locate_tells_by
  locate_ends o h k t = go (M.locate t (cond (eqb k d.current) d.position 0) v.objects).why (at_partition d k (M.locate t (cond (eqb k d.current) d.position 0) v.objects).to)
    where
      go : (w : M.Why) (e : Drive) → Ending rule o v (deed e (locate_tells v w) [] (0, 0)) (deed e (locate_tells_by rule v w) [] (0, 0))
      go M.done e = elsewhere silent refl
      go M.marked e = elsewhere silent refl
      go M.edge e = at_end_lem h e false (pos 0) [] (0, 0) refl refl

  pub act_ends : (o : Operation) → Ending rule o v (act o d cmd sent v) (act_by rule o d cmd sent v)
  unfolding act act_by
  act_ends TestUnitReady = elsewhere silent refl
  act_ends Rewind = elsewhere silent refl
  act_ends RequestSense = elsewhere silent refl
  act_ends ReadBlockLimits = elsewhere silent refl
  act_ends Read = read_ends
  act_ends Write = elsewhere (never_there Write refl _ (act_tells d cmd sent v Write)) refl
  act_ends WriteFilemarks = elsewhere (never_there WriteFilemarks refl _ (act_tells d cmd sent v WriteFilemarks)) refl
  act_ends Space = space_ends Space refl (space_code_of cmd) (space_count_of cmd)
  act_ends ModeSelect = elsewhere (never_there ModeSelect refl _ (act_tells d cmd sent v ModeSelect)) refl
  act_ends Erase = elsewhere silent refl
  act_ends ModeSense = elsewhere silent refl
  act_ends LoadUnload = elsewhere silent refl
  act_ends Locate = locate_ends Locate refl (target_of Locate d cmd) (M.object (object_of cmd))
  act_ends ReadPosition = elsewhere silent refl
  act_ends Space16 = space_ends Space16 refl (space_code_of cmd) (space_count16_of cmd)
  act_ends Locate16 = locate_ends Locate16 refl (target_of Locate16 d cmd) (destination16 cmd)
  act_ends NotServed = elsewhere silent refl

-- What an act may tell: always by `told`, counting for READ, WRITE, WRITE FILEMARKS and SPACE of either length alone, key 8 by READ, SPACE and LOCATE
-- alone, and never what only a test tells.
-- Assumes nothing.
use Prim.Native.Nat.{ℕ, suc, ◌+◌, ◌<◌}
use mathlib.Core.Path.{◌≡◌, refl, sym, ap, ◌∙◌}
use mathlib.Core.Logic.{◌≢◌, ◌⊎◌, inl, inr}
use mathlib.Core.Bool.{Bool, true, false, cond, ◌||◌}
use mathlib.Core.Option.{Option, none, some}
use mathlib.Core.List.{List}
use native.Mathlib.Omega.{arith}
use lib.Dec.{eqb}
use lib.IntN.{ℤ, pos, negsuc, sub_ℕ}
use lib.ListN.{length, take, drop, get_elem?}
use Rattle.answers.proofs.First.{not_both}
use Rattle.objects.specs.Object.{Object, filemark, block, bytes_in}
use Rattle.objects.specs.Movement as M
use Rattle.objects.specs.Room.{room_of, zone_in}
use Rattle.objects.specs.Transfer.{Ended, whole, odd_length, at_filemark, at_end, run_of}
use Rattle.sense.specs.declared.Sense.{Sense}
use Rattle.sense.specs.Sense.{no_sense, illegal_request, blank_check, volume_overflow, no_additional, unqualified, invalid_list_field, filemark_detected, end_of_partition, beginning_of_partition, end_of_data_detected, told, plainly}
use Rattle.record.specs.declared.drive.Drive.{Drive}
use Rattle.codes.specs.declared.operation.Operation.{Operation}
use Rattle.codes.specs.declared.operation.Operation.TheVariants.{TestUnitReady, Rewind, RequestSense, ReadBlockLimits, Read, Write, WriteFilemarks, Space, ModeSelect, Erase, ModeSense, LoadUnload, Locate, ReadPosition, Space16, Locate16, NotServed}
use Rattle.codes.specs.Codes.{number_of}
use Rattle.codes.specs.Fields.{fixed_of, transfer_of, space_code_of, space_count_of, space_count16_of, object_of, allocation_of}
use Rattle.commands.specs.Parameters.{whole_length, list_right, new_length}
use Rattle.commands.specs.Act.{Seen, good, checked, carrying, read_run, at, eom_at_end, odd_met, warned, overflowed, hidden, read_variable, run_tells, reading, goes_down, wrote, writing, marking, space_tells, movement, spacing, target_of, destination16, locate_tells, locating, selecting, with_length, act}
use Rattle.exact.specs.Residues.{counts}
use Rattle.exact.specs.EndOfData.{may_meet_end}

-- the flags FILEMARK, EOM and ILI, the key, ASC and ASCQ, of each sense that 01 gives an act: which commands tell it, and with which residue z
abbrev pub Parts : Type 0
Parts = Bool × Bool × Bool × ℕ × ℕ × ℕ

pub data Which (o : Operation) (z : ℤ) (p : Parts) : Type 0 where
  odd_length_lem : counts o ≡ true → o ≢ Space16 → p ≡ (false, false, true, no_sense, no_additional, unqualified) → Which o z p
  at_filemark_lem : p ≡ (true, false, false, no_sense, no_additional, filemark_detected) → Which o z p
  early_warning : counts o ≡ true → o ≢ Space16 → z ≡ pos 0 → p ≡ (false, true, false, no_sense, no_additional, end_of_partition) → Which o z p
  overflow : counts o ≡ true → o ≢ Space16 → p ≡ (false, true, false, volume_overflow, no_additional, end_of_partition) → Which o z p
  at_beginning : p ≡ (false, true, false, no_sense, no_additional, beginning_of_partition) → Which o z p
  at_end_lem : (e : Bool) → p ≡ (false, e, false, blank_check, no_additional, end_of_data_detected) → Which o z p
  list_wrong : counts o ≡ false → p ≡ (false, false, false, illegal_request, invalid_list_field, unqualified) → Which o z p

-- a sense that the command o may tell
pub record Told (o : Operation) (s : Sense) : Type 0 where
  pub filemark : Bool
  pub eom : Bool
  pub ili : Bool
  pub key : ℕ
  pub asc : ℕ
  pub ascq : ℕ
  pub residue : ℤ
  pub key_small : key < 16
  pub asc_known : (asc ≡ no_additional) ⊎ (asc ≡ invalid_list_field)
  pub at_end_lem : key ≡ blank_check → may_meet_end o ≡ true
  pub which : Which o residue (filemark, eom, ili, key, asc, ascq)
  pub is : s ≡ told (counts o) filemark eom ili key asc ascq residue

abbrev pub ToldBy : Operation → Option Sense → Type 0
ToldBy o none = Unit {0}
ToldBy o (some s) = Told o s

-- none of these three is SPACE (16)
other_number : (o : Operation) → eqb (number_of o) (number_of Space16) ≡ false → o ≢ Space16
other_number o h e = not_both (sym (ap (λ (k : Operation). eqb (number_of k) (number_of Space16)) e) ∙ h)

read_not : Read ≢ Space16
read_not = other_number Read refl

write_not : Write ≢ Space16
write_not = other_number Write refl

marks_not : WriteFilemarks ≢ Space16
marks_not = other_number WriteFilemarks refl

-- one that 01 gives ASC 00h, told by a command of which c says whether it counts
plain : (o : Operation) (c f e i : Bool) (key ascq : ℕ) (z : ℤ) → counts o ≡ c → key < 16 → (key ≡ blank_check → may_meet_end o ≡ true) → Which o z (f, e, i, key, no_additional, ascq) → Told o (told c f e i key no_additional ascq z)
plain o c f e i key ascq z q h k w = record { filemark = f; eom = e; ili = i; key = key; asc = no_additional; ascq = ascq; residue = z; key_small = h; asc_known = inl refl; at_end_lem = k; which = w; is = ap (λ (b : Bool). told b f e i key no_additional ascq z) (sym q) }

module _ (d : Drive) (cmd sent : List ℕ) (v : Seen) where
  wrote_tells : (o : Operation) → counts o ≡ true → o ≢ Space16 → (n : ℕ) (os : List Object) (z : ℤ) → ToldBy o (wrote d v n os z).tells
  unfolding wrote
  wrote_tells o c m n os z = go (eqb (length os) n) (zone_in v.size (room_of v.size (d.position + length os) (bytes_in (take d.position v.objects) + bytes_in os)))
    where
      there : Drive
      there = at d (d.position + length os)

      go : (t w : Bool) → ToldBy o (cond t (cond w (checked there warned) (good there)) (checked there (overflowed z))).tells
      go true true = plain o true false true false no_sense end_of_partition (pos 0) c (omega arith) (λ e. absurd (omega arith)) (early_warning c m refl refl)
      go true false = tt
      go false w = plain o true false true false volume_overflow end_of_partition z c (omega arith) (λ e. absurd (omega arith)) (overflow c m refl)

  run_tells_lem : (w : Ended) (z : ℤ) → ToldBy Read (run_tells v w z)
  unfolding run_tells
  run_tells_lem whole z = tt
  run_tells_lem odd_length z = plain Read true false false true no_sense unqualified z refl (omega arith) (λ e. absurd (omega arith)) (odd_length_lem refl read_not refl)
  run_tells_lem at_filemark z = plain Read true true false false no_sense filemark_detected z refl (omega arith) (λ e. absurd (omega arith)) (at_filemark_lem refl)
  run_tells_lem at_end z = plain Read true false (eom_at_end v) false blank_check end_of_data_detected z refl (omega arith) (λ e. refl) (at_end_lem (eom_at_end v) refl)

  variable_tells : (x : Option Object) → ToldBy Read (read_variable d cmd v x).tells
  unfolding read_variable
  variable_tells none = plain Read true false (eom_at_end v) false blank_check end_of_data_detected (pos (transfer_of cmd)) refl (omega arith) (λ e. refl) (at_end_lem (eom_at_end v) refl)
  variable_tells (some filemark) = plain Read true true false false no_sense filemark_detected (pos (transfer_of cmd)) refl (omega arith) (λ e. absurd (omega arith)) (at_filemark_lem refl)
  variable_tells (some (block bs)) = go (eqb (length bs) (transfer_of cmd) || hidden d cmd (length bs))
    where
      there : Drive
      there = at d (suc d.position)

      go : (t : Bool) → ToldBy Read (cond t (good there) (checked there (odd_met (sub_ℕ (transfer_of cmd) (length bs))))).tells
      go true = tt
      go false = plain Read true false false true no_sense unqualified (sub_ℕ (transfer_of cmd) (length bs)) refl (omega arith) (λ e. absurd (omega arith)) (odd_length_lem refl read_not refl)

  read_tells : ToldBy Read (reading d cmd v).tells
  unfolding reading
  read_tells = go (eqb (transfer_of cmd) 0) (fixed_of cmd)
    where
      go : (z f : Bool) → ToldBy Read
          (cond z (good d)
          (cond f (read_run d v (transfer_of cmd) (run_of d.block_length (transfer_of cmd) (drop d.position v.objects)))
          (read_variable d cmd v (get_elem? v.objects d.position)))).tells
      go true f = tt
      go false true = run_tells_lem _ _
      go false false = variable_tells (get_elem? v.objects d.position)

  -- SPACE of either length, by its code and its count
  space_tells_lem : (o : Operation) → counts o ≡ true → may_meet_end o ≡ true → (code : ℕ) (k : ℤ) → ToldBy o (spacing d code k v).tells
  unfolding spacing space_tells
  space_tells_lem o c h code k = go (movement code k d.position v.objects) (movement code k d.position v.objects).why k
    where
      go : (m : M.Move) (w : M.Why) (k : ℤ) → ToldBy o (space_tells v k (record { to = m.to; moved = m.moved; why = w; distance = m.distance }))
      go m M.done k = tt
      go m M.marked k = plain o true true false false no_sense filemark_detected _ c (omega arith) (λ e. absurd (omega arith)) (at_filemark_lem refl)
      go m M.edge (pos n) = plain o true false (eom_at_end v) false blank_check end_of_data_detected _ c (omega arith) (λ e. h) (at_end_lem (eom_at_end v) refl)
      go m M.edge (negsuc n) = plain o true false true false no_sense beginning_of_partition _ c (omega arith) (λ e. absurd (omega arith)) (at_beginning refl)

  select_tells : ToldBy ModeSelect (selecting d cmd sent).tells
  unfolding selecting
  select_tells = go (eqb (allocation_of cmd) 0) (list_right (allocation_of cmd) sent) (allocation_of cmd) (cond (eqb (allocation_of cmd) whole_length) (with_length d (new_length sent)) d)
    where
      go : (z r : Bool) (n : ℕ) (e : Drive) → ToldBy ModeSelect (cond z (good d) (cond r (carrying n (good e)) (checked d (plainly illegal_request invalid_list_field unqualified)))).tells
      go true r n e = tt
      go false true n e = tt
      go false false n e = record { filemark = false; eom = false; ili = false; key = illegal_request; asc = invalid_list_field; ascq = unqualified; residue = pos 0; key_small = omega arith; asc_known = inr refl; at_end_lem = λ e. absurd (omega arith); which = list_wrong refl refl; is = refl }

  -- LOCATE of either length, by its partition and its destination
  locate_tells_lem : (o : Operation) → counts o ≡ false → may_meet_end o ≡ true → (k : ℕ) (t : M.Destination) → ToldBy o (locating d k t v).tells
  unfolding locating locate_tells
  locate_tells_lem o c h k t = go (M.locate t (cond (eqb k d.current) d.position 0) v.objects).why
    where
      go : (w : M.Why) → ToldBy o (locate_tells v w)
      go M.done = tt
      go M.marked = tt
      go M.edge = plain o false false (eom_at_end v) false blank_check end_of_data_detected (pos 0) c (omega arith) (λ e. h) (at_end_lem (eom_at_end v) refl)

  write_tells : ToldBy Write (writing d cmd sent v).tells
  unfolding writing
  write_tells = go (eqb (transfer_of cmd) 0) (fixed_of cmd)
    where
      os : List Object
      os = goes_down Write d cmd sent v

      go : (z f : Bool) → ToldBy Write (cond z (good d) (carrying (bytes_in os) (cond f (wrote d v (transfer_of cmd) os (sub_ℕ (transfer_of cmd) (length os))) (wrote d v 1 os (sub_ℕ (transfer_of cmd) (bytes_in os)))))).tells
      go true f = tt
      go false true = wrote_tells Write refl write_not _ _ _
      go false false = wrote_tells Write refl write_not _ _ _

  marks_tell : ToldBy WriteFilemarks (marking d cmd sent v).tells
  unfolding marking
  marks_tell = go (eqb (transfer_of cmd) 0)
    where
      os : List Object
      os = goes_down WriteFilemarks d cmd sent v

      go : (z : Bool) → ToldBy WriteFilemarks (cond z (good d) (wrote d v (transfer_of cmd) os (sub_ℕ (transfer_of cmd) (length os)))).tells
      go true = tt
      go false = wrote_tells WriteFilemarks refl marks_not _ _ _

  pub act_tells : (o : Operation) → ToldBy o (act o d cmd sent v).tells
  unfolding act
  act_tells TestUnitReady = tt
  act_tells Rewind = tt
  act_tells RequestSense = tt
  act_tells ReadBlockLimits = tt
  act_tells Read = read_tells
  act_tells Write = write_tells
  act_tells WriteFilemarks = marks_tell
  act_tells Space = space_tells_lem Space refl refl (space_code_of cmd) (space_count_of cmd)
  act_tells ModeSelect = select_tells
  act_tells Erase = tt
  act_tells ModeSense = tt
  act_tells LoadUnload = tt
  act_tells Locate = locate_tells_lem Locate refl refl (target_of Locate d cmd) (M.object (object_of cmd))
  act_tells ReadPosition = tt
  act_tells Space16 = space_tells_lem Space16 refl refl (space_code_of cmd) (space_count16_of cmd)
  act_tells Locate16 = locate_tells_lem Locate16 refl refl (target_of Locate16 d cmd) (destination16 cmd)
  act_tells NotServed = tt

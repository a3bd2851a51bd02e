-- The call by a largest block of 65,536 bytes and by one of 1,048,576: the same, where neither the record, nor a partition lent, nor the command has to
-- do with a larger block.
-- Assumes nothing.
use Prim.Native.Nat.{ℕ, ◌≤◌}
use native.Mathlib.Omega.{arith}
use mathlib.Core.Path.{◌≡◌, refl, sym, ◌∙◌}
use mathlib.Core.Bool.{Bool, true, false, cond, not, ◌&&◌, ◌||◌}
use mathlib.Core.List.{List, [], ◌∷◌, ◌++◌}
use borrow.Author.Tests.{eqb-true, le-leb, le-ltb, ltb-false}
use lib.Dec.{eqb, leb, ltb}
use lib.ListN.{length}
use Rattle.words.specs.Words.{be, bytes}
use Rattle.objects.specs.Object.{largest_block}
use Rattle.record.specs.declared.drive.Drive.{Drive}
use Rattle.record.specs.Record.{record_length, decode_of, attention_known, empty_handed, placed, well_formed, well_record}
use Rattle.codes.specs.declared.operation.Operation.{Operation}
use Rattle.codes.specs.declared.operation.Operation.TheVariants.{ReadBlockLimits, Write, ModeSelect}
use Rattle.codes.specs.Codes.{number_of, code_of, operation_of}
use Rattle.codes.specs.Fields.{fixed_of, transfer_of, allocation_of}
use Rattle.commands.specs.Kinds.{among}
use Rattle.commands.specs.Parameters.{header_length, whole_length, block_limits, header_right, new_length, descriptor_right, list_right}
use Rattle.commands.specs.Act.{Seen, Deed, giving, good, selecting, reply_of, act}
use Rattle.commands.specs.Tests.{field_error, tests}
use Rattle.commands.specs.Step.{acted, step}
use Rattle.commands.specs.Call.{Lent, seen, inserted, step_of, called, command_call}
use Rattle.commands.proofs.Classes.{named}
use Rattle.history.specs.History.{cartridge}
use Rattle.lengths.proofs.Calls.{unset}
use Rattle.larger.specs.Rules.{largest_before, well_record_by, inserted_by, field_error_by, tests_by, list_right_by, selecting_by, act_by, call_by, Within, speaks_above}
use Rattle.larger.proofs.Images.{sound_so, same_sound}

-- ---- what a command speaks of

pub not_spoken : (m : ℕ) (cmd sent : List ℕ) → speaks_above m cmd sent ≡ false
    → (among (ReadBlockLimits ∷ []) (operation_of (code_of cmd)) ≡ false)
    × (among (Write ∷ []) (operation_of (code_of cmd)) && not (fixed_of cmd) && ltb m (transfer_of cmd) ≡ false)
    × (among (ModeSelect ∷ []) (operation_of (code_of cmd)) && eqb (allocation_of cmd) whole_length && ltb m (new_length sent) ≡ false)
unfolding speaks_above
not_spoken m cmd sent h =
    let a = unset (among (ReadBlockLimits ∷ []) (operation_of (code_of cmd)) || (among (Write ∷ []) (operation_of (code_of cmd)) && not (fixed_of cmd) && ltb m (transfer_of cmd))) _ h in
    let b = unset (among (ReadBlockLimits ∷ []) (operation_of (code_of cmd))) _ a.0 in
    (b.0, b.1, a.1)

-- ---- by 1,048,576 the call is the one that demand 2 defines

-- the block length among what else makes a record well formed, or behind it
moved : (e a b c : Bool) → e && (a && true && c) && b ≡ e && (a && b && c)
moved true true true true = refl
moved true true true false = refl
moved true true false true = refl
moved true true false false = refl
moved true false true c = refl
moved true false false c = refl
moved false a b c = refl

pub record_so : (rec : List ℕ) → well_record_by largest_block rec ≡ well_record rec
unfolding well_record_by well_record well_formed empty_handed placed
record_so rec = moved (eqb (length rec) record_length) (attention_known (decode_of rec).attention) (leb (decode_of rec).block_length largest_block) _

inserted_so : (d : Drive) (p0 p1 : List ℕ) → inserted_by largest_block d p0 p1 ≡ inserted d p0 p1
unfolding inserted_by inserted
inserted_so d p0 p1 = rw (sound_so p0, sound_so p1) refl

fields_so : (o : Operation) (d : Drive) (cmd : List ℕ) → field_error_by largest_block o d cmd ≡ field_error o d cmd
unfolding field_error_by
fields_so o d cmd = go (eqb (number_of o) (number_of Write)) refl
  where
    by : (f : Bool) → fixed_of cmd ≡ f → cond (not f) (ltb largest_block (transfer_of cmd)) (field_error Write d cmd) ≡ field_error Write d cmd
    by true e = refl
    by false e = unfold field_error in rw e refl

    go : (t : Bool) → eqb (number_of o) (number_of Write) ≡ t → cond (cond t true false && not (fixed_of cmd)) (ltb largest_block (transfer_of cmd)) (field_error o d cmd) ≡ field_error o d cmd
    go true e = rw (named o Write (number_of o) refl (eqb-true (number_of o) (number_of Write) e)) (by (fixed_of cmd) refl)
    go false e = refl

acts_so : (o : Operation) (d : Drive) (cmd sent : List ℕ) (v : Seen) → act_by largest_block o d cmd sent v ≡ act o d cmd sent v
unfolding act_by
acts_so o d cmd sent v = go (eqb (number_of o) (number_of ReadBlockLimits)) (eqb (number_of o) (number_of ModeSelect)) refl refl
  where
    go : (t u : Bool) → eqb (number_of o) (number_of ReadBlockLimits) ≡ t → eqb (number_of o) (number_of ModeSelect) ≡ u
        → cond (cond t true false) (giving ((0x00 ∷ []) ++ bytes 3 largest_block ++ bytes 2 1) (good d)) (cond (cond u true false) (selecting_by largest_block d cmd sent) (act o d cmd sent v)) ≡ act o d cmd sent v
    go true u e f = rw (named o ReadBlockLimits (number_of o) refl (eqb-true (number_of o) (number_of ReadBlockLimits) e)) (unfold act reply_of block_limits in refl)
    go false true e f = rw (named o ModeSelect (number_of o) refl (eqb-true (number_of o) (number_of ModeSelect) f)) (unfold act selecting selecting_by list_right list_right_by descriptor_right in refl)
    go false false e f = refl

pub call_so : (rec : List ℕ) (x : Lent) → call_by largest_block rec x ≡ command_call rec x
unfolding call_by command_call called step_of step acted tests_by tests
call_so rec x =
    let o : Operation = operation_of (code_of x.cmd) in
    let d : Drive = decode_of rec in
    rw (record_so rec, inserted_so d x.part0 x.part1, fields_so o d x.cmd, acts_so o d x.cmd x.sent (seen o d x)) refl

-- a block length of at most m is one by both rules
pub same_record : (m : ℕ) → m ≤ largest_block → (rec : List ℕ) → (decode_of rec).block_length ≤ m → well_record_by m rec ≡ well_record_by largest_block rec
unfolding well_record_by
same_record m l rec h = rw (le-leb (decode_of rec).block_length m h, le-leb (decode_of rec).block_length largest_block (omega arith)) refl

-- ---- what the call has to do with the largest block: four things; where they are the same, it is

module _ (rec : List ℕ) (x : Lent) where
  abbrev o : Operation
  o = operation_of (code_of x.cmd)

  abbrev d : Drive
  d = decode_of rec

  same_call : (m n : ℕ) → well_record_by m rec ≡ well_record_by n rec → inserted_by m d x.part0 x.part1 ≡ inserted_by n d x.part0 x.part1 → field_error_by m o d x.cmd ≡ field_error_by n o d x.cmd
      → act_by m o d x.cmd x.sent (seen o d x) ≡ act_by n o d x.cmd x.sent (seen o d x) → call_by m rec x ≡ call_by n rec x
  unfolding call_by tests_by
  same_call m n a b c e = rw (a, b, c, e) refl

  -- ---- and they are the same for a call that has to do with no larger block

  module _ (m : ℕ) (l : m ≤ largest_block) (w : Within m rec (cartridge x.part0 x.part1)) (quiet : speaks_above m x.cmd x.sent ≡ false) where
    same_inserted : inserted_by m d x.part0 x.part1 ≡ inserted_by largest_block d x.part0 x.part1
    unfolding inserted_by
    same_inserted = rw (same_sound m x.part0 l w.part0, same_sound m x.part1 l w.part1) refl

    -- what the command speaks of
    spoken : (among (ReadBlockLimits ∷ []) o ≡ false)
        × (among (Write ∷ []) o && not (fixed_of x.cmd) && ltb m (transfer_of x.cmd) ≡ false)
        × (among (ModeSelect ∷ []) o && eqb (allocation_of x.cmd) whole_length && ltb m (new_length x.sent) ≡ false)
    spoken = not_spoken m x.cmd x.sent quiet

    -- at most m is at most the largest
    same_above : (k : ℕ) → ltb m k ≡ false → ltb m k ≡ ltb largest_block k
    same_above k e = e ∙ sym (le-ltb largest_block k (omega (arith, ltb-false m k e)))

    same_within : (k : ℕ) → ltb m k ≡ false → leb k m ≡ leb k largest_block
    same_within k e = le-leb k m (ltb-false m k e) ∙ sym (le-leb k largest_block (omega (arith, ltb-false m k e)))

    same_fields : field_error_by m o d x.cmd ≡ field_error_by largest_block o d x.cmd
    unfolding field_error_by
    same_fields = go (among (Write ∷ []) o && not (fixed_of x.cmd)) spoken.1
      where
        go : (t : Bool) → t && ltb m (transfer_of x.cmd) ≡ false → cond t (ltb m (transfer_of x.cmd)) (field_error o d x.cmd) ≡ cond t (ltb largest_block (transfer_of x.cmd)) (field_error o d x.cmd)
        go true e = same_above (transfer_of x.cmd) e
        go false e = refl

    same_list : among (ModeSelect ∷ []) o ≡ true → list_right_by m (allocation_of x.cmd) x.sent ≡ list_right_by largest_block (allocation_of x.cmd) x.sent
    unfolding list_right_by
    same_list s = go (eqb (allocation_of x.cmd) whole_length) (rw s at spoken.2)
      where
        go : (t : Bool) → t && ltb m (new_length x.sent) ≡ false
            → header_right (allocation_of x.cmd) x.sent && cond t (eqb (be 4 x.sent 4) 0 && leb (new_length x.sent) m) (eqb (allocation_of x.cmd) header_length)
            ≡ header_right (allocation_of x.cmd) x.sent && cond t (eqb (be 4 x.sent 4) 0 && leb (new_length x.sent) largest_block) (eqb (allocation_of x.cmd) header_length)
        go true e = rw (same_within (new_length x.sent) e) refl
        go false e = refl

    same_act : act_by m o d x.cmd x.sent (seen o d x) ≡ act_by largest_block o d x.cmd x.sent (seen o d x)
    unfolding act_by selecting_by
    same_act = rw spoken.0 (go (among (ModeSelect ∷ []) o) same_list)
      where
        A : Deed
        A = act o d x.cmd x.sent (seen o d x)

        go : (t : Bool) → (t ≡ true → list_right_by m (allocation_of x.cmd) x.sent ≡ list_right_by largest_block (allocation_of x.cmd) x.sent)
            → cond t (selecting_by m d x.cmd x.sent) A ≡ cond t (selecting_by largest_block d x.cmd x.sent) A
        go true e = rw (e refl) refl
        go false e = refl

    pub as_by : call_by m rec x ≡ call_by largest_block rec x
    as_by = same_call m largest_block (same_record m l rec w.length-set) same_inserted same_fields same_act

-- ---- Q-7 beside 01: whoever has to do with no block above 65,536 bytes sees no change

pub as_before : (rec : List ℕ) (x : Lent) → Within largest_before rec (cartridge x.part0 x.part1) → speaks_above largest_before x.cmd x.sent ≡ false → call_by largest_before rec x ≡ command_call rec x
as_before rec x w q = as_by rec x largest_before (omega arith) w q ∙ call_so rec x

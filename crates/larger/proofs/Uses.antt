-- A drive used with a cartridge, by 01's largest block and by Q-7's: through any commands, mounts and protection changes all is the same, if at the
-- beginning neither has to do with a block above 65,536 bytes and then no command speaks of one.
-- Assumes nothing.
use Prim.Native.Nat.{ℕ, zero, suc, ◌-◌, ◌≤◌, ◌<◌}
use native.Mathlib.Omega.{arith}
use mathlib.Core.Path.{◌≡◌, refl, sym, ap, ◌∙◌, subst}
use mathlib.Core.Bool.{Bool, true, false, cond, not, ◌&&◌}
use mathlib.Core.List.{List, [], ◌∷◌}
use borrow.Author.Tests.{eqb-true, ltb-false, not-true}
use lib.Dec.{eqb, ltb}
use lib.ListN.{length, take}
use Rattle.answers.specs.Answers.{Settled, settled, done, refused}
use Rattle.objects.specs.Object.{Object, block, largest_block}
use Rattle.objects.specs.Events.{cut, happens}
use Rattle.objects.specs.Transfer.{blocks_of, marks_of, put_from}
use Rattle.image.specs.Image.{sound, fault_of, objects}
use Rattle.image.specs.Parts.{part_of}
use Rattle.image.proofs.Facts.{Sound, sound_parts, sound_of}
use Rattle.image.proofs.Judged.{never_both, fault_free}
use Rattle.image.proofs.Tests.{both}
use Rattle.record.specs.declared.drive.Drive.{Drive}
use Rattle.record.specs.Record.{mounted_block_length, decode_of, encode_of, mounted_drive}
use Rattle.codes.specs.declared.operation.Operation.{Operation}
use Rattle.codes.specs.declared.operation.Operation.TheVariants.{Write, WriteFilemarks, ModeSelect}
use Rattle.codes.specs.Codes.{code_of, operation_of}
use Rattle.codes.specs.Fields.{fixed_of, transfer_of, allocation_of}
use Rattle.house.specs.Mount.{partitions_of, both_sound, mount_fault, mount_call}
use Rattle.house.specs.Images.{protect_call}
use Rattle.commands.specs.Kinds.{among, erases}
use Rattle.commands.specs.Parameters.{whole_length, new_length}
use Rattle.commands.specs.Act.{offered, events_of}
use Rattle.commands.specs.Step.{acted}
use Rattle.commands.specs.Call.{Lent, lent, Result, partition, seen, laid_out, command_call}
use Rattle.commands.proofs.Faultless.{inside}
use Rattle.commands.proofs.Goes.{Touch, untouched, touched, act_touches}
use Rattle.history.specs.History.{Slot, slot0, slot1, number, Cartridge, cartridge, part, is_good, slices_left, caused, after}
use Rattle.history.specs.Always.{Use, sends, mounts, protects, call_of, record_after}
use Rattle.history.proofs.Ended.{Finished, by_number, by_sense, by_act, ended}
use Rattle.history.proofs.Acted.{stepped, acts, unaltered, shaped}
use Rattle.history.proofs.Told.{shown, protect_turned}
use Rattle.lengths.specs.Lengths.{Turn}
use Rattle.lengths.proofs.Setting.{sets, made_length}
use Rattle.larger.specs.Rules.{largest_before, mount_by, protect_by, part_by, none_above, NoLarger, Within, speaks_above, turn_by, played_by, none_speaks}
use Rattle.larger.proofs.Above.{none_take, none_blocks, none_marks, none_put, none_cut}
use Rattle.larger.proofs.Images.{sound_so, same_sound}
use Rattle.larger.proofs.Calls.{not_spoken, record_so, call_so, same_record, as_by}

-- ---- the house services, by 1,048,576 those of house/specs and views/specs

pub mount_so : (rec p0 p1 : List ℕ) → mount_by largest_block rec p0 p1 ≡ mount_call rec p0 p1
unfolding mount_by mount_call mount_fault both_sound
mount_so rec p0 p1 = rw (record_so rec, sound_so p0, sound_so p1) refl

pub protect_so : (on : Bool) (s : List ℕ) → protect_by largest_block on s ≡ protect_call on s
unfolding protect_by protect_call fault_of
protect_so on s = rw (sound_so s) refl

pub part_so : (s : List ℕ) (i : ℕ) → part_by largest_block s i ≡ part_of s i
unfolding part_by part_of
part_so s i = rw (sound_so s) refl

module _ (m : ℕ) (l : m ≤ largest_block) where
  same_mount : (rec : List ℕ) (c : Cartridge) → Within m rec c → mount_by m rec c.part0 c.part1 ≡ mount_by largest_block rec c.part0 c.part1
  unfolding mount_by
  same_mount rec c w = rw (same_record m l rec w.length-set, same_sound m c.part0 l w.part0, same_sound m c.part1 l w.part1) refl

  same_protect : (on : Bool) (s : List ℕ) → NoLarger m s → protect_by m on s ≡ protect_by largest_block on s
  unfolding protect_by
  same_protect on s a = rw (same_sound m s l a) refl

  pub same_part : (s : List ℕ) (i : ℕ) → NoLarger m s → part_by m s i ≡ part_by largest_block s i
  unfolding part_by
  same_part s i a = rw (same_sound m s l a) refl

  -- ---- a command that speaks of no block above m puts none

  offers_none : (d : Drive) (cmd sent : List ℕ) (o : Operation) → d.block_length ≤ m → among (Write ∷ []) o && not (fixed_of cmd) && ltb m (transfer_of cmd) ≡ false → none_above m (offered o d cmd sent) ≡ true
  unfolding offered
  offers_none d cmd sent o h q = go (among (Write ∷ []) o) (among (WriteFilemarks ∷ []) o) (fixed_of cmd) (eqb (transfer_of cmd) 0) q
    where
      go : (w f t z : Bool) → w && not t && ltb m (transfer_of cmd) ≡ false
          → none_above m (cond w (cond t (blocks_of d.block_length (transfer_of cmd) sent) (cond z [] (block (take (transfer_of cmd) sent) ∷ []))) (cond f (marks_of (transfer_of cmd)) [])) ≡ true
      go true f true z e = none_blocks m d.block_length (transfer_of cmd) sent h
      go true f false true e = unfold none_above in refl
      go true f false false e = let k = ltb-false m (transfer_of cmd) e in unfold blocks_of in none_blocks m (transfer_of cmd) 1 sent k
      go false true t z e = none_marks m (transfer_of cmd)
      go false false t z e = unfold none_above in refl

  causes_none : (rec cmd sent : List ℕ) (r : Result) (xs : List Object) → none_above m (offered (operation_of (code_of cmd)) (decode_of rec) cmd sent) ≡ true → none_above m xs ≡ true → none_above m (happens (caused rec cmd sent r) xs) ≡ true
  unfolding caused
  causes_none rec cmd sent r xs a b = go (erases (operation_of (code_of cmd))) (is_good r.answer)
    where
      k : ℕ
      k = (decode_of rec).position

      moved : List Object
      moved = take ((decode_of r.rec).position - k) (offered (operation_of (code_of cmd)) (decode_of rec) cmd sent)

      go : (e g : Bool) → none_above m (happens (cond e (cond g (cut k ∷ []) []) (put_from k moved)) xs) ≡ true
      go true true = none_cut m k xs b
      go true false = unfold happens in b
      go false g = none_put m moved k xs (none_take m ((decode_of r.rec).position - k) (offered (operation_of (code_of cmd)) (decode_of rec) cmd sent) a) b

  -- ---- a partition that is not sound is not touched

  other : (s : Slot) (k : ℕ) (p0 p1 : List ℕ) (f : List ℕ → List ℕ) → k < 2 → Sound (partition k p0 p1) → (Sound (part s (cartridge p0 p1)) → ⊥)
      → part s (cartridge (cond (eqb k 1) p0 (f p0)) (cond (eqb k 1) (f p1) p1)) ≡ part s (cartridge p0 p1)
  other slot0 zero p0 p1 f h k n = absurd (n k)
  other slot1 zero p0 p1 f h k n = refl
  other slot0 (suc zero) p0 p1 f h k n = refl
  other slot1 (suc zero) p0 p1 f h k n = absurd (n k)
  other slot0 (suc (suc i)) p0 p1 f h k n = absurd (omega arith)
  other slot1 (suc (suc i)) p0 p1 f h k n = absurd (omega arith)

  untouched_unsound : (s : Slot) (rec : List ℕ) (x : Lent) → (Sound (part s (cartridge x.part0 x.part1)) → ⊥) → part s (slices_left (command_call rec x)) ≡ part s (cartridge x.part0 x.part1)
  untouched_unsound s rec x n = go (ended rec x.cmd x.part0 x.part1 x.sent x.received)
    where
      o : Operation
      o = operation_of (code_of x.cmd)

      go : Finished rec x.cmd x.part0 x.part1 x.sent x.received → part s (slices_left (command_call rec x)) ≡ part s (cartridge x.part0 x.part1)
      go (by_number k h e q) = ap (λ (r : Result). part s (slices_left r)) q
      go (by_sense k e f b w p h q) = ap (λ (r : Result). part s (slices_left r)) q
      go (by_act e w t q) = ap (λ (r : Result). part s (slices_left r)) q ∙ by (act_touches (decode_of rec) x.cmd x.sent (length x.received) (seen o (decode_of rec) x) o t)
        where
          by : Touch o (decode_of rec) x.cmd (events_of o (decode_of rec) x.cmd x.sent (seen o (decode_of rec) x)) (stepped rec x w o t).clears → part s (slices_left (acts rec x w o t)) ≡ part s (cartridge x.part0 x.part1)
          by (untouched u c) = ap (part s) (unaltered rec x w o t (unfold acted in u) c)
          by (touched k z) =
              let i = inside (decode_of rec) x.part0 x.part1 w.cart z in
              ap (part s) (shaped rec x w o t k z) ∙ other s (decode_of rec).current x.part0 x.part1 (laid_out (stepped rec x w o t)) i.two i.right n

  -- ---- so neither has to do with one afterwards

  module _ (rec : List ℕ) (x : Lent) (w : Within m rec (cartridge x.part0 x.part1)) (q : speaks_above m x.cmd x.sent ≡ false) where
    length_stays : (decode_of (command_call rec x).rec).block_length ≤ m
    length_stays = rw (sets rec x) (go (among (ModeSelect ∷ []) (operation_of (code_of x.cmd))) (is_good (command_call rec x).answer) (eqb (allocation_of x.cmd) whole_length) (not_spoken m x.cmd x.sent q).2)
      where
        go : (a b c : Bool) → a && c && ltb m (new_length x.sent) ≡ false → cond (a && b && c) (new_length x.sent) (decode_of rec).block_length ≤ m
        go true true true e = ltb-false m (new_length x.sent) e
        go true true false e = w.length-set
        go true false c e = w.length-set
        go false b c e = w.length-set

    part_stays : (s : Slot) → NoLarger m (part s (cartridge x.part0 x.part1)) → NoLarger m (part s (slices_left (command_call rec x)))
    part_stays s a h = go (sound (part s (cartridge x.part0 x.part1))) refl
      where
        offers : none_above m (offered (operation_of (code_of x.cmd)) (decode_of rec) x.cmd x.sent) ≡ true
        offers = offers_none (decode_of rec) x.cmd x.sent (operation_of (code_of x.cmd)) w.length-set (not_spoken m x.cmd x.sent q).1

        by : (t : Bool) (xs : List Object) → none_above m xs ≡ true → none_above m (happens (cond t (caused rec x.cmd x.sent (command_call rec x)) []) xs) ≡ true
        by true xs b = causes_none rec x.cmd x.sent (command_call rec x) xs offers b
        by false xs b = unfold happens in b

        go : (t : Bool) → sound (part s (cartridge x.part0 x.part1)) ≡ t → none_above m (objects (part s (slices_left (command_call rec x)))) ≡ true
        go true e =
            let t = shown s rec x.cmd x.part0 x.part1 x.sent x.received (sound_parts (part s (cartridge x.part0 x.part1)) e) in
            rw t.makes (by (eqb (decode_of rec).current (number s)) (objects (part s (cartridge x.part0 x.part1))) (a e))
        go false e =
            let same = untouched_unsound s rec x (λ k. never_both (sound_of (part s (cartridge x.part0 x.part1)) k) e) in
            absurd (never_both (sym (ap sound same) ∙ h) e)

    stays : Within m (command_call rec x).rec (slices_left (command_call rec x))
    stays = record { length-set = length_stays; part0 = part_stays slot0 w.part0; part1 = part_stays slot1 w.part1 }

  protected_stays : (on : Bool) (s : List ℕ) → NoLarger m s → NoLarger m (protect_call on s).lent
  protected_stays on s a h = go (eqb (fault_of s) 0) refl
    where
      go : (t : Bool) → eqb (fault_of s) 0 ≡ t → none_above m (objects (protect_call on s).lent) ≡ true
      go true e = let k = fault_free s (eqb-true (fault_of s) 0 e) in let t = protect_turned on s k in rw t.makes (unfold happens in a (sound_of s k))
      go false e = let same : (protect_call on s).lent ≡ s = unfold protect_call in rw e refl in rw same (a (sym (ap sound same) ∙ h))

  module _ (h : mounted_block_length ≤ m) where
    mounted_stays : (rec p0 p1 : List ℕ) → (decode_of rec).block_length ≤ m → (decode_of (mount_call rec p0 p1).lent).block_length ≤ m
    unfolding mount_call
    mounted_stays rec p0 p1 a = go (eqb (mount_fault rec p0 p1) 0)
      where
        go : (t : Bool) → (decode_of (cond t (settled done (encode_of (mounted_drive (partitions_of p1)))) (settled (refused (mount_fault rec p0 p1)) rec)).lent).block_length ≤ m
        go true = omega (arith, made_length (partitions_of p1))
        go false = a

    -- ---- one use, and one after another

    alike : (u : Use) (us : List Use) → none_speaks m (u ∷ us) ≡ true → (rec : List ℕ) (c : Cartridge) → Within m rec c
        → (turn_by m u rec c ≡ turn_by largest_block u rec c) × Within m (turn_by largest_block u rec c).rec (turn_by largest_block u rec c).cart × (none_speaks m us ≡ true)
    unfolding none_speaks
    alike (sends cmd sent received) us q rec c w =
        let b = both (not (speaks_above m cmd sent)) (none_speaks m us) q in
        let x = lent cmd c.part0 c.part1 sent received in
        let n = not-true (speaks_above m cmd sent) b.0 in (
          ap (λ (r : Result). record { answer = r.answer; received = r.lent.received; rec = r.rec; cart = slices_left r }) (as_by rec x m l w n),
          subst (λ (r : Result). Within m r.rec (slices_left r)) (sym (call_so rec x)) (stays rec x w n),
          b.1,
        )
    alike mounts us q rec c w = (
      ap (λ (s : Settled). record { answer = s.answer; received = []; rec = s.lent; cart = c }) (same_mount rec c w),
      subst (λ (s : Settled). Within m s.lent c) (sym (mount_so rec c.part0 c.part1)) (record { length-set = mounted_stays rec c.part0 c.part1 w.length-set; part0 = w.part0; part1 = w.part1 }),
      q,
    )
    alike (protects slot0 on) us q rec c w = (
      ap (λ (s : Settled). record { answer = s.answer; received = []; rec = rec; cart = cartridge s.lent c.part1 }) (same_protect on c.part0 w.part0),
      subst (λ (s : Settled). Within m rec (cartridge s.lent c.part1)) (sym (protect_so on c.part0)) (record { length-set = w.length-set; part0 = protected_stays on c.part0 w.part0; part1 = w.part1 }),
      q,
    )
    alike (protects slot1 on) us q rec c w = (
      ap (λ (s : Settled). record { answer = s.answer; received = []; rec = rec; cart = cartridge c.part0 s.lent }) (same_protect on c.part1 w.part1),
      subst (λ (s : Settled). Within m rec (cartridge c.part0 s.lent)) (sym (protect_so on c.part1)) (record { length-set = w.length-set; part0 = w.part0; part1 = protected_stays on c.part1 w.part1 }),
      q,
    )

    played_alike : (us : List Use) → none_speaks m us ≡ true → (rec : List ℕ) (c : Cartridge) → Within m rec c → played_by m us rec c ≡ played_by largest_block us rec c
    unfolding played_by
    played_alike [] q rec c w = refl
    played_alike (u ∷ us) q rec c w =
        let a = alike u us q rec c w in
        let t : Turn = turn_by largest_block u rec c in
        ap (λ (s : Turn). s ∷ played_by m us s.rec s.cart) a.0 ∙ ap (λ (ts : List Turn). t ∷ ts) (played_alike us a.2 t.rec t.cart a.1)

-- ---- Q-7 beside 01

pub uses_as_before : (us : List Use) → none_speaks largest_before us ≡ true → (rec : List ℕ) (c : Cartridge) → Within largest_before rec c → played_by largest_before us rec c ≡ played_by largest_block us rec c
uses_as_before us q rec c w = played_alike largest_before (omega arith) (omega arith) us q rec c w

-- by 1,048,576 a use leaves what demand 3's uses leave
pub uses_so : (u : Use) (rec : List ℕ) (c : Cartridge) → ((turn_by largest_block u rec c).rec ≡ record_after u rec c) × ((turn_by largest_block u rec c).cart ≡ after (call_of u rec) c)
unfolding after
uses_so (sends cmd sent received) rec c =
    let e = call_so rec (lent cmd c.part0 c.part1 sent received) in
    (ap (λ (r : Result). r.rec) e, ap slices_left e)
uses_so mounts rec c = (ap (λ (s : Settled). s.lent) (mount_so rec c.part0 c.part1), refl)
uses_so (protects slot0 on) rec c = (refl, ap (λ (s : Settled). cartridge s.lent c.part1) (protect_so on c.part0))
uses_so (protects slot1 on) rec c = (refl, ap (λ (s : Settled). cartridge c.part0 s.lent) (protect_so on c.part1))

-- and the view shows the same of an older image
pub view_as_before : (s : List ℕ) (i : ℕ) → NoLarger largest_before s → part_by largest_before s i ≡ part_of s i
view_as_before s i a = same_part largest_before (omega arith) s i a ∙ part_so s i

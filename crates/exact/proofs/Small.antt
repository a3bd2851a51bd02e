-- The bytes that a call carries are fewer than 2^32: what is read lies in a partition, what is put fits one, and a reply is short.
-- Assumes nothing.
use Prim.Native.Nat.{ℕ, zero, suc, ◌+◌, ◌≤◌, ◌<◌, ◌^◌, min}
use mathlib.Core.Path.{◌≡◌, refl, ap, ◌∙◌}
use mathlib.Core.Logic.{◌⊎◌, inl, inr}
use mathlib.Core.Bool.{Bool, true, false, cond}
use mathlib.Core.Option.{Option, none, some}
use mathlib.Core.List.{List, [], ◌∷◌}
use native.Mathlib.Nat.{le_refl}
use native.Mathlib.Omega.{arith}
use borrow.Author.Tests.{leb-true, not-false}
use lib.Dec.{eqb}
use lib.ListN.{length, take, drop, get_or, get_elem?, length-take, take-append-drop}
use lib.Seq.{take_all}
use Rattle.answers.specs.Answers.{first}
use Rattle.answers.proofs.First.{or_three, same_test}
use Rattle.objects.specs.Object.{Object, filemark, block, data_of, bytes_in}
use Rattle.objects.specs.Room.{room_of, fits_in, entry_length}
use Rattle.objects.specs.Transfer.{run_of, fitting}
use Rattle.objects.proofs.Count.{bytes_append}
use Rattle.image.specs.Image.{count, end_at, objects}
use Rattle.image.proofs.Facts.{Sound, end_lt}
use Rattle.image.proofs.Objects.{length_objects, end_bytes}
use Rattle.record.specs.declared.drive.Drive.{Drive}
use Rattle.record.specs.Record.{attention_at, sense_at, no_attention, decode_of}
use Rattle.sense.specs.Sense.{sense_length, illegal_request, invalid_list_field, unqualified, parts_of, plainly, attention_sense}
use Rattle.sense.specs.Descriptors.{descriptor_bytes, in_form, both_length}
use Rattle.sense.proofs.Forms.{form_most}
use Rattle.codes.specs.declared.operation.Operation.{Operation}
use Rattle.codes.specs.declared.operation.Operation.TheVariants.{TestUnitReady, Rewind, RequestSense, ReadBlockLimits, Read, Write, WriteFilemarks, Space, ModeSelect, Erase, ModeSense, LoadUnload, Locate, ReadPosition, Space16, Locate16, NotServed}
use Rattle.codes.specs.Fields.{fixed_of, transfer_of, form_of, dbd_of, asks_descriptors, allocation_of}
use Rattle.commands.specs.Act.{Seen, good, checked, carrying, with_length, read_variable, read_run, reading, goes_down, offered, spacing, locating, selecting, short_form, sense_asked, sense_reply, reply_of, act}
use Rattle.commands.specs.Call.{Lent, partition, looks_at, seen, seen_of}
use Rattle.commands.specs.Parameters.{limits_length, header_length, whole_length, short_length, long_length, list_length_known, list_right, new_length}
use Rattle.commands.specs.Kinds.{among, needs_cartridge}
use Rattle.commands.specs.Tests.{reply_length, tests}
use Rattle.commands.proofs.Faultless.{Well, attention_whole, inside}
use Rattle.commands.proofs.Goes.{has_cartridge}
use Rattle.commands.proofs.Passed.{passed}
use Rattle.commands.proofs.Replies.{reply_length_lem}
use Rattle.history.proofs.Acted.{sees}
use Rattle.history.proofs.Answered.{writing_carried}
use Rattle.exact.proofs.Carried.{run_bytes, marks_lay}

-- ---- what is read lies among the objects

bytes_drop : (n : ℕ) (xs : List Object) → bytes_in (drop n xs) ≤ bytes_in xs
bytes_drop n xs = omega (arith, ap bytes_in (take-append-drop n xs), bytes_append (take n xs) (drop n xs))

bytes_take : (n : ℕ) (xs : List Object) → bytes_in (take n xs) ≤ bytes_in xs
bytes_take n xs = omega (arith, ap bytes_in (take-append-drop n xs), bytes_append (take n xs) (drop n xs))

pub bytes_at : (xs : List Object) (i : ℕ) (bs : List ℕ) → get_elem? xs i ≡ some (block bs) → length bs ≤ bytes_in xs
unfolding bytes_in
bytes_at [] i bs e = absurd (let z : ◌≡◌ {A = ℕ} 0 1 = cc in omega arith)
bytes_at (x ∷ xs) zero bs e = let q : x ≡ block bs = cc in rw q (omega arith)
bytes_at (x ∷ xs) (suc i) bs e = let h = bytes_at xs i bs e in omega arith

read_small : (d : Drive) (cmd : List ℕ) (v : Seen) → (reading d cmd v).carried ≤ bytes_in v.objects
unfolding reading
read_small d cmd v = go (eqb (transfer_of cmd) 0) (fixed_of cmd)
  where
    xs : List Object
    xs = drop d.position v.objects

    met : (x : Option Object) → get_elem? v.objects d.position ≡ x → (read_variable d cmd v x).carried ≤ bytes_in v.objects
    met none e = unfold read_variable in omega arith
    met (some filemark) e = unfold read_variable in omega arith
    met (some (block bs)) e = unfold read_variable in omega (arith, length-take (transfer_of cmd) bs, bytes_at v.objects d.position bs e)

    go : (z f : Bool) → (cond z (good d) (cond f (read_run d v (transfer_of cmd) (run_of d.block_length (transfer_of cmd) xs)) (read_variable d cmd v (get_elem? v.objects d.position)))).carried ≤ bytes_in v.objects
    go true f = omega arith
    go false true = omega (arith, run_bytes d.block_length (transfer_of cmd) xs, bytes_drop d.position v.objects)
    go false false = met (get_elem? v.objects d.position) refl

-- ---- what is put fits

fit_in : (l n e k : ℕ) → e ≤ l → fits_in (room_of l n e) k ≡ true → e + k ≤ l
fit_in l n e k h f = omega (arith, leb-true (entry_length + k) (room_of l n e) f)

fitting_in : (l n e : ℕ) (os : List Object) → e ≤ l → e + bytes_in (fitting l n e os) ≤ l
unfolding fitting bytes_in
fitting_in l n e [] h = omega arith
fitting_in l n e (o ∷ os) h = go (fits_in (room_of l n e) (length (data_of o))) refl (fitting_in l (suc n) (e + length (data_of o)) os)
  where
    go : (t : Bool) → fits_in (room_of l n e) (length (data_of o)) ≡ t → (e + length (data_of o) ≤ l → e + length (data_of o) + bytes_in (fitting l (suc n) (e + length (data_of o)) os) ≤ l)
        → e + bytes_in (elim t as (λ x. List Object) [ true ↦ o ∷ fitting l (suc n) (e + length (data_of o)) os | false ↦ [] ]) ≤ l
    go true f ih = let r = ih (fit_in l n e (length (data_of o)) h f) in omega arith
    go false f ih = omega arith

down_small : (o : Operation) (d : Drive) (cmd sent : List ℕ) (v : Seen) → bytes_in (take d.position v.objects) ≤ v.size → bytes_in (goes_down o d cmd sent v) ≤ v.size
unfolding goes_down
down_small o d cmd sent v h = omega (arith, fitting_in v.size d.position (bytes_in (take d.position v.objects)) (offered o d cmd sent) h)

-- ---- in a sound image

pub image_small : (p : List ℕ) → Sound p → (bytes_in (objects p) < 2 ^ 31) × (bytes_in (objects p) ≤ length p)
image_small p k =
    let e : end_at p (count p) ≡ bytes_in (objects p) = end_bytes p k (count p) (le_refl (count p)) ∙ ap bytes_in (take_all (count p) (objects p) (omega (arith, length_objects p))) in
    (omega (arith, end_lt p (count p)), omega (arith, k.data_in, k.dir_is))

-- ---- a reply is short

sense_short : (rec : List ℕ) → length (sense_asked (decode_of rec)) ≤ sense_length
unfolding decode_of
sense_short rec = go (eqb (get_or rec attention_at 0) no_attention)
  where
    go : (t : Bool) → length (cond t (take sense_length (drop sense_at rec)) (attention_sense (get_or rec attention_at 0))) ≤ sense_length
    go true = omega (arith, length-take sense_length (drop sense_at rec))
    go false = omega (arith, attention_whole (get_or rec attention_at 0))

-- in either form
form_short : (rec cmd : List ℕ) → length (sense_reply (decode_of rec) cmd) ≤ both_length
unfolding in_form
form_short rec cmd = go (asks_descriptors cmd)
  where
    go : (t : Bool) → length (cond t (descriptor_bytes (parts_of (sense_asked (decode_of rec)))) (sense_asked (decode_of rec))) ≤ both_length
    go true = form_most (parts_of (sense_asked (decode_of rec)))
    go false = omega (arith, sense_short rec)

reply_short : (rec cmd : List ℕ) (o : Operation) → reply_length o (decode_of rec) cmd ≤ long_length
unfolding reply_length
reply_short rec cmd o =
    go (among (RequestSense ∷ []) o) (among (ReadBlockLimits ∷ []) o) (among (ModeSense ∷ []) o) (among (ReadPosition ∷ []) o) (dbd_of cmd) (eqb (form_of cmd) short_form) (length (sense_reply (decode_of rec) cmd)) (form_short rec cmd)
  where
    go : (a b c e f g : Bool) (n : ℕ) → n ≤ both_length
        → cond a (min (allocation_of cmd) n) (cond b limits_length (cond c (min (allocation_of cmd) (cond f header_length whole_length)) (cond e (cond g short_length long_length) 0))) ≤ long_length
    go true b c e f g n h = omega arith
    go false true c e f g n h = omega arith
    go false false true e true g n h = omega arith
    go false false true e false g n h = omega arith
    go false false false true f true n h = omega arith
    go false false false true f false n h = omega arith
    go false false false false f g n h = omega arith

-- ---- of the command k, which no test stopped

module _ (rec : List ℕ) (x : Lent) (w : Well (decode_of rec) x.part0 x.part1) where
  abbrev d : Drive
  d = decode_of rec

  module _ (k : Operation) (q : first (tests k d x.cmd (seen k d x) x.sent (length x.received)) ≡ none) where
    abbrev Carries : Type 0
    Carries = (act k d x.cmd x.sent (seen k d x)).carried < 2 ^ 32

    -- it sees the current partition
    module _ (l : looks_at k d x.cmd ≡ d.current) (n : needs_cartridge k ≡ true) where
      abbrev p : List ℕ
      p = partition d.current x.part0 x.part1

      loaded : d.loaded ≡ 0 → ⊥
      loaded = has_cartridge d x.cmd x.sent (length x.received) (seen k d x) k n q

      right : Sound p
      right = (inside d x.part0 x.part1 w.cart loaded).right

      sees_it : seen k d x ≡ seen_of p
      sees_it = sees rec x w k q l loaded

      pub read_carries : (reading d x.cmd (seen k d x)).carried < 2 ^ 32
      unfolding seen_of
      read_carries = rw sees_it (omega (arith, read_small d x.cmd (seen_of p), (image_small p right).0))

      pub write_carries : bytes_in (goes_down k d x.cmd x.sent (seen k d x)) < 2 ^ 32
      unfolding seen_of
      write_carries = rw sees_it (let i = image_small p right in omega (arith, down_small k d x.cmd x.sent (seen_of p) (omega (arith, bytes_take d.position (objects p), i.1)), right.most))

  list_short : (n : ℕ) → list_length_known n ≡ true → n ≤ whole_length
  unfolding list_length_known
  list_short n h = go ((or_three (eqb n 0) (eqb n header_length) (eqb n whole_length) (same_test n 0) (same_test n header_length) (same_test n whole_length)).0 h)
    where
      go : (n ≡ 0) ⊎ ((n ≡ header_length) ⊎ (n ≡ whole_length)) → n ≤ whole_length
      go (inl e) = omega arith
      go (inr (inl e)) = omega arith
      go (inr (inr e)) = omega arith

  select_carries : (first (tests ModeSelect d x.cmd (seen ModeSelect d x) x.sent (length x.received)) ≡ none) → (selecting d x.cmd x.sent).carried < 2 ^ 32
  unfolding selecting
  select_carries q = go (eqb (allocation_of x.cmd) 0) (list_right (allocation_of x.cmd) x.sent) (cond (eqb (allocation_of x.cmd) whole_length) (with_length d (new_length x.sent)) d)
    where
      known : allocation_of x.cmd ≤ whole_length
      known = list_short (allocation_of x.cmd) (not-false (list_length_known (allocation_of x.cmd)) (passed ModeSelect d x.cmd (seen ModeSelect d x) x.sent (length x.received) q).list)

      go : (z r : Bool) (e : Drive) → (cond z (good d) (cond r (carrying (allocation_of x.cmd) (good e)) (checked d (plainly illegal_request invalid_list_field unqualified)))).carried < 2 ^ 32
      go true r e = omega arith
      go false true e = omega (arith, known)
      go false false e = omega arith

  reply_carries : (o : Operation) (v : Seen) → length (reply_of o d x.cmd v) < 2 ^ 32
  reply_carries o v = omega (arith, reply_length_lem o d x.cmd v, reply_short rec x.cmd o)

  pub carries : (k : Operation) → first (tests k d x.cmd (seen k d x) x.sent (length x.received)) ≡ none → (act k d x.cmd x.sent (seen k d x)).carried < 2 ^ 32
  unfolding act looks_at spacing locating
  carries Read q = read_carries Read q refl refl
  carries Write q = rw (writing_carried d x.cmd x.sent (seen Write d x)) (write_carries Write q refl refl)
  carries ModeSelect q = select_carries q
  carries RequestSense q = reply_carries RequestSense (seen RequestSense d x)
  carries ReadBlockLimits q = reply_carries ReadBlockLimits (seen ReadBlockLimits d x)
  carries ModeSense q = reply_carries ModeSense (seen ModeSense d x)
  carries ReadPosition q = reply_carries ReadPosition (seen ReadPosition d x)
  carries WriteFilemarks q = rw (marks_lay d x.cmd x.sent (seen WriteFilemarks d x)).1 (omega arith)
  carries TestUnitReady q = omega arith
  carries Rewind q = omega arith
  carries Space q = omega arith
  carries Erase q = omega arith
  carries LoadUnload q = omega arith
  carries Locate q = omega arith
  carries Space16 q = omega arith
  carries Locate16 q = omega arith
  carries NotServed q = omega arith

-- Demand 3, second half: variable reads of the largest block meet the objects ahead one by one, and then end of data.
-- Assumes nothing.
use Prim.Native.Nat.{ℕ, suc, ◌+◌, ◌^◌, ◌≤◌, ◌<◌, zero-le}
use native.Mathlib.Omega.{arith}
use mathlib.Core.Path.{◌≡◌, refl, sym, ap, ◌∙◌, subst}
use mathlib.Core.Bool.{Bool, true, false, cond, ◌&&◌, ◌||◌}
use mathlib.Core.Option.{Option, none, some}
use mathlib.Core.List.{List, [], ◌∷◌}
use borrow.Author.Tests.{eq-eqb, ne_eqb, le-ltb}
use lib.Dec.{eqb}
use lib.IntN.{ℤ, pos, sub_ℕ}
use lib.ListN.{length, take, drop, get_elem?}
use lib.Seq.{take_all, take-append_seam}
use Rattle.words.specs.Words.{be, bytes, over}
use Rattle.words.specs.Signed.{wrapped}
use Rattle.words.proofs.Wraps.{wrapped_lt}
use Rattle.answers.specs.Answers.{check_condition, answered, first}
use Rattle.objects.specs.Object.{Object, filemark, block, data_of, largest_block}
use Rattle.image.specs.Image.{count, entry, top_bit, low31, end_at, object_at, objects}
use Rattle.image.proofs.Facts.{Sound, ordered_at, follows_size}
use Rattle.image.proofs.Objects.{length_objects, object_is, object_data}
use Rattle.sense.specs.declared.Sense.{Sense}
use Rattle.sense.specs.Sense.{no_sense, blank_check, sense_bytes, parts_of, reports, told}
use Rattle.sense.proofs.RoundTrip.{Spellable, parts_made}
use Rattle.record.specs.declared.drive.Drive.{Drive}
use Rattle.record.specs.Record.{no_attention, decode_of, encode_of, with_sense}
use Rattle.codes.specs.declared.operation.Operation.TheVariants.{Read}
use Rattle.codes.specs.Codes.{too_short, in_masks, masks_hold}
use Rattle.codes.specs.Fields.{fixed_of, sili_of, transfer_of}
use Rattle.commands.specs.Act.{Seen, Deed, good, checked, giving, at, hidden, odd_met, filemark_met, end_met, read_variable, reading, act}
use Rattle.commands.specs.Tests.{tests, bytes_asked, field_error, taken, needed}
use Rattle.commands.specs.Step.{acted, status_of, kept_of}
use Rattle.commands.specs.Call.{Lent, lent, Result, result_of, partition, looks_at, seen_of, command_tests, command_call, applied}
use Rattle.commands.proofs.Ends.{call_acts}
use Rattle.commands.proofs.Classes.{unchanged}
use Rattle.history.specs.History.{Slot, slot0, slot1, number, Cartridge, cartridge, part, slices_left}
use Rattle.history.specs.Demand3.{NoFault, Mounted, AtBeginning, read_largest, Reading, read_once, Met, object, end_of_data, nothing_known, says, met_of, readings, read_through, meetings}
use Rattle.commands.proofs.Faultless.{Well, fault_free, back, place_small, sense_whole, Inside, inside, seen_there, kept_whole}
use Rattle.history.proofs.Lists.{get_lt, get_get_d, drop_none, drop_some}
use Rattle.history.proofs.Always.{command_faultless}

-- ---- no test stops such a read

asked : (b : Bool) → transfer_of (read_largest b) ≡ largest_block
unfolding transfer_of be bytes
asked true = refl
asked false = refl

pub lets : (b : Bool) (rec p0 p1 sent received : List ℕ) → NoFault rec (cartridge p0 p1) → (decode_of rec).loaded ≡ 1 → (decode_of rec).attention ≡ no_attention → largest_block ≤ length received
    → first (command_tests rec (lent (read_largest b) p0 p1 sent received)) ≡ none
unfolding first command_tests tests too_short masks_hold in_masks field_error fixed_of sili_of taken needed bytes_asked be bytes
lets true rec p0 p1 sent received f l a r =
    rw (f, eq-eqb (decode_of rec).attention no_attention a, ne_eqb (decode_of rec).loaded 0 (λ z. omega arith), le-ltb (length sent) 0 zero-le, asked true, le-ltb (length received) largest_block r) refl
lets false rec p0 p1 sent received f l a r =
    rw (f, eq-eqb (decode_of rec).attention no_attention a, ne_eqb (decode_of rec).loaded 0 (λ z. omega arith), le-ltb (length sent) 0 zero-le, asked false, le-ltb (length received) largest_block r) refl

-- ---- what the read is: of the object at the position

-- what a deed leaves that alters no partition
abbrev leaves : Deed → Lent → Result
leaves e x =
    result_of (answered (status_of e.tells) e.carried e.crossed) (encode_of (with_sense e.drive (kept_of e.tells)))
    (lent x.cmd x.part0 x.part1 x.sent (over x.received 0 e.received))

acts_so : (b : Bool) (d : Drive) (sent p : List ℕ) → act Read d (read_largest b) sent (seen_of p) ≡ read_variable d (read_largest b) (seen_of p) (get_elem? (objects p) d.position)
unfolding act reading fixed_of transfer_of be bytes seen_of
acts_so true d sent p = refl
acts_so false d sent p = refl

same_way : (t : Bool) (p : List ℕ) → cond t p p ≡ p
same_way true p = refl
same_way false p = refl

reads_so : (b : Bool) (rec p0 p1 sent received : List ℕ) → NoFault rec (cartridge p0 p1) → (decode_of rec).loaded ≡ 1 → (decode_of rec).attention ≡ no_attention → largest_block ≤ length received
    → command_call rec (lent (read_largest b) p0 p1 sent received) ≡ leaves (read_variable (decode_of rec) (read_largest b) (seen_of (partition (decode_of rec).current p0 p1)) (get_elem? (objects (partition (decode_of rec).current p0 p1)) (decode_of rec).position)) (lent (read_largest b) p0 p1 sent received)
unfolding applied acted looks_at
reads_so b rec p0 p1 sent received f l a r =
    let w = inside (decode_of rec) p0 p1 (fault_free rec p0 p1 f).cart (λ z. omega arith) in
    let v : Seen = seen_of (partition (decode_of rec).current p0 p1) in
    call_acts rec (lent (read_largest b) p0 p1 sent received) (lets b rec p0 p1 sent received f l a r)
    ∙ rw (seen_there Read (decode_of rec) (lent (read_largest b) p0 p1 sent received) w.there, unchanged Read refl (decode_of rec) (read_largest b) sent v p0, unchanged Read refl (decode_of rec) (read_largest b) sent v p1, acts_so b (decode_of rec) sent (partition (decode_of rec).current p0 p1), same_way (eqb (decode_of rec).current 1) p0, same_way (eqb (decode_of rec).current 1) p1) refl

-- ---- what its answer, sense and buffer tell

pub told_held : (counts f e i : Bool) (key asc ascq : ℕ) (z : ℤ) → key < 16 → Spellable (told counts f e i key asc ascq z)
unfolding told
told_held counts f e i key asc ascq z h = record { key_small = h; information_small = go (reports counts key z) }
  where
    go : (t : Bool) → cond t (wrapped z) 0 < 2 ^ 32
    go true = wrapped_lt z
    go false = omega arith

-- with CHECK CONDITION and a sense
met_told : (d : Drive) (s : Sense) (n : ℕ) (x : Lent) → d.position < 2 ^ 32 → d.block_length ≤ largest_block → Spellable s
    → met_of (result_of (answered check_condition n 0) (encode_of (with_sense d (sense_bytes s))) x)
    ≡ cond (says s blank_check 0x00 0x05) end_of_data
    (cond (says s no_sense 0x00 0x01 && s.filemark) (object filemark)
    (cond (says s no_sense 0x00 0x00 && s.ili) (object (block (take n x.received))) nothing_known))
unfolding met_of
met_told d s n x h l k =
    let e : parts_of (decode_of (encode_of (with_sense d (sense_bytes s)))).sense ≡ s = ap (λ (y : Drive). parts_of y.sense) (back d (sense_bytes s) h l (sense_whole s)) ∙ (unfold with_sense in parts_made s k) in
    rw e refl

carried_back : (bs received : List ℕ) → take (length bs) (over received 0 bs) ≡ bs
unfolding over
carried_back bs received = take-append_seam bs (drop (0 + length bs) received)

met_good : (b bs cmd p0 p1 sent received : List ℕ) → met_of (result_of (answered 0 (length bs) 0) b (lent cmd p0 p1 sent (over received 0 bs))) ≡ object (block bs)
unfolding met_of
met_good b bs cmd p0 p1 sent received = ap (λ (x : List ℕ). object (block x)) (carried_back bs received)

-- ---- a block has the length that its entry promises, which is at most the largest

pub promised : (s : List ℕ) → Sound s → (i : ℕ) (bs : List ℕ) → get_elem? (objects s) i ≡ some (block bs)
    → (i < count s) × (top_bit (entry s i) ≡ false) × (low31 (entry s i) ≡ end_at s i + length bs)
promised s k i bs e = let q = go (top_bit (entry s i)) refl in (h, q.0, q.1)
  where
    h : i < count s
    h = omega (arith, get_lt (objects s) i (block bs) e, length_objects s)

    o : object_at s i ≡ block bs
    o = sym (object_is s i filemark h) ∙ get_get_d (objects s) i (block bs) filemark e

    go : (t : Bool) → top_bit (entry s i) ≡ t → (top_bit (entry s i) ≡ false) × (low31 (entry s i) ≡ end_at s i + length bs)
    go true q = absurd (let f : object_at s i ≡ filemark = unfold object_at in rw q refl in let w : filemark ≡ block bs = sym f ∙ o in let z : ◌≡◌ {A = ℕ} 0 1 = cc in omega arith)
    go false q =
        let l : end_at s i + length (data_of (object_at s i)) ≡ low31 (entry s i) = unfold end_at in object_data s k i h in
        (q, sym l ∙ ap (λ (x : Object). end_at s i + length (data_of x)) o)

block_small : (s : List ℕ) → Sound s → (i : ℕ) (bs : List ℕ) → get_elem? (objects s) i ≡ some (block bs) → length bs ≤ largest_block
block_small s k i bs e =
    let q = promised s k i bs e in
    let f = follows_size (end_at s i) (entry s i) (ordered_at s i (count s) q.0 k.in_order) q.1 in
    omega (arith, f.1, q.2)

-- ---- one read

-- what lies ahead of a record's position on its current partition
abbrev pub lies_ahead : List ℕ → Cartridge → List Object
lies_ahead rec c = drop (decode_of rec).position (objects (partition (decode_of rec).current c.part0 c.part1))

record Step (rec : List ℕ) (c : Cartridge) (r : Result) : Type 0 where
  next : (n : ℕ) → met_of r ∷ meetings n (lies_ahead r.rec (slices_left r)) ≡ meetings (suc n) (lies_ahead rec c)
  loaded : (decode_of r.rec).loaded ≡ 1
  calm : (decode_of r.rec).attention ≡ no_attention
  same : slices_left r ≡ c

module _ (b : Bool) (rec p0 p1 sent received : List ℕ) (m : Mounted rec (cartridge p0 p1)) where
  abbrev d : Drive
  d = decode_of rec

  abbrev p : List ℕ
  p = partition (decode_of rec).current p0 p1

  w : Well (decode_of rec) p0 p1
  w = fault_free rec p0 p1 m.no_fault

  i : Inside (decode_of rec) p0 p1
  i = inside (decode_of rec) p0 p1 w.cart (λ z. omega (arith, m.loaded))

  -- a deed that leaves the drive at n, meets x, and has xs ahead of n
  stepped : (e : Deed) (n : ℕ) → e.drive ≡ at d n → n ≤ count p → ((k : ℕ) → met_of (leaves e (lent (read_largest b) p0 p1 sent received)) ∷ meetings k (drop n (objects p)) ≡ meetings (suc k) (drop d.position (objects p))) → Step rec (cartridge p0 p1) (leaves e (lent (read_largest b) p0 p1 sent received))
  unfolding with_sense
  stepped e n h l f =
      let small : n < 2 ^ 32 = omega (arith, i.right.dir_is, i.right.most) in
      let q : decode_of (encode_of (with_sense e.drive (kept_of e.tells))) ≡ with_sense (at d n) (kept_of e.tells)
      = ap (λ (x : Drive). decode_of (encode_of (with_sense x (kept_of e.tells)))) h ∙ back (at d n) (kept_of e.tells) small w.small (kept_whole e.tells) in
      record {
        next = λ k. ap (λ (x : Drive). met_of (leaves e (lent (read_largest b) p0 p1 sent received)) ∷ meetings k (drop x.position (objects (partition x.current p0 p1)))) q ∙ f k;
        loaded = ap (λ (x : Drive). x.loaded) q ∙ m.loaded;
        calm = ap (λ (x : Drive). x.attention) q ∙ m.no_attention_lem;
        same = refl;
      }

  one_read : (x : Option Object) → get_elem? (objects p) d.position ≡ x → Step rec (cartridge p0 p1) (leaves (read_variable d (read_largest b) (seen_of p) x) (lent (read_largest b) p0 p1 sent received))
  unfolding read_variable meetings status_of kept_of told
  one_read none e =
      let z = drop_none (objects p) d.position e in
      stepped (checked d (end_met (seen_of p) (pos (transfer_of (read_largest b))))) d.position refl i.place (λ k. rw z
      (ap (λ (y : Met). y ∷ meetings k []) (met_told d (end_met (seen_of p) (pos (transfer_of (read_largest b)))) 0 (lent (read_largest b) p0 p1 sent (over received 0 [])) (place_small d p0 p1 w.cart) w.small (told_held true false _ false blank_check 0x00 0x05 (pos (transfer_of (read_largest b))) (omega arith)))))
  one_read (some filemark) e =
      let g = get_lt (objects p) d.position filemark e in
      let l = length_objects p in
      let z = drop_some (objects p) d.position filemark e in
      stepped (checked (at d (suc d.position)) (filemark_met (pos (transfer_of (read_largest b))))) (suc d.position) refl (omega arith) (λ k. rw z
      (ap (λ (y : Met). y ∷ meetings k (drop (suc d.position) (objects p))) (met_told (at d (suc d.position)) (filemark_met (pos (transfer_of (read_largest b)))) 0 (lent (read_largest b) p0 p1 sent (over received 0 [])) (omega (arith, i.right.dir_is, i.right.most)) w.small (told_held true true false false no_sense 0x00 0x01 (pos (transfer_of (read_largest b))) (omega arith)))))
  one_read (some (block bs)) e =
      let s : take (transfer_of (read_largest b)) bs ≡ bs = take_all (transfer_of (read_largest b)) bs (rw (asked b) (block_small p i.right d.position bs e)) in
      rw s (go (eqb (length bs) (transfer_of (read_largest b)) || hidden d (read_largest b) (length bs)))
    where
      g : suc d.position ≤ count p
      g = omega (arith, get_lt (objects p) d.position (block bs) e, length_objects p)

      go : (t : Bool) → Step rec (cartridge p0 p1) (leaves (giving bs (cond t (good (at d (suc d.position))) (checked (at d (suc d.position)) (odd_met (sub_ℕ (transfer_of (read_largest b)) (length bs)))))) (lent (read_largest b) p0 p1 sent received))
      go true = stepped (giving bs (good (at d (suc d.position)))) (suc d.position) refl g (λ k. rw (drop_some (objects p) d.position (block bs) e)
          (ap (λ (y : Met). y ∷ meetings k (drop (suc d.position) (objects p))) (met_good _ bs (read_largest b) p0 p1 sent received)))
      go false = stepped (giving bs (checked (at d (suc d.position)) (odd_met (sub_ℕ (transfer_of (read_largest b)) (length bs))))) (suc d.position) refl g (λ k. rw (drop_some (objects p) d.position (block bs) e)
          (ap (λ (y : Met). y ∷ meetings k (drop (suc d.position) (objects p)))
          (met_told (at d (suc d.position)) (odd_met (sub_ℕ (transfer_of (read_largest b)) (length bs))) (length bs) (lent (read_largest b) p0 p1 sent (over received 0 bs)) (omega (arith, g, i.right.dir_is, i.right.most)) w.small
          (told_held true false false true no_sense 0x00 0x00 (sub_ℕ (transfer_of (read_largest b)) (length bs)) (omega arith)) ∙ ap (λ (x : List ℕ). object (block x)) (carried_back bs received))))

-- ---- one read after another

step : (x : Reading) (rec : List ℕ) (c : Cartridge) → Mounted rec c → Step rec c (read_once x rec c)
step x rec c m =
    subst (Step rec c) (sym (reads_so x.sili rec c.part0 c.part1 x.sent x.received m.no_fault m.loaded m.no_attention_lem x.room))
    (one_read x.sili rec c.part0 c.part1 x.sent x.received m (get_elem? (objects (partition (decode_of rec).current c.part0 c.part1)) (decode_of rec).position) refl)

-- mounted still
stays : (x : Reading) (rec : List ℕ) (c : Cartridge) → Mounted rec c → Mounted (read_once x rec c).rec (slices_left (read_once x rec c))
stays x rec c m =
    let s = step x rec c m in
    record { no_fault = command_faultless rec (read_largest x.sili) c.part0 c.part1 x.sent x.received m.no_fault; loaded = s.loaded; no_attention_lem = s.calm }

pub meets_all : (xs : List Reading) (rec : List ℕ) (c : Cartridge) → Mounted rec c → readings xs rec c ≡ meetings (length xs) (lies_ahead rec c)
unfolding readings
meets_all [] rec c m = unfold meetings in refl
meets_all (x ∷ xs) rec c m =
    let r : Result = read_once x rec c in
    ap (λ (ys : List Met). met_of r ∷ ys) (meets_all xs r.rec (slices_left r) (stays x rec c m)) ∙ (step x rec c m).next (length xs)

pub unread : (xs : List Reading) (rec : List ℕ) (c : Cartridge) → Mounted rec c → read_through xs rec c ≡ c
unfolding read_through
unread [] rec c m = refl
unread (x ∷ xs) rec c m = unread xs (read_once x rec c).rec (slices_left (read_once x rec c)) (stays x rec c m) ∙ (step x rec c m).same

-- from the beginning of the partition of a slot
pub meets : (s : Slot) (rec : List ℕ) (c : Cartridge) → Mounted rec c → AtBeginning s rec → (xs : List Reading) → readings xs rec c ≡ meetings (length xs) (objects (part s c))
meets s rec c m a xs = meets_all xs rec c m ∙ rw (a.position, a.current) (by s)
  where
    by : (s : Slot) → meetings (length xs) (objects (partition (number s) c.part0 c.part1)) ≡ meetings (length xs) (objects (part s c))
    by slot0 = refl
    by slot1 = refl

-- The facility's sentences, from demand 3: what a WRITE answered as put stands until it is touched; calls that put and erase nothing lose nothing.
-- Assumes nothing.
use Prim.Native.Nat.{ℕ, zero, suc, ◌+◌, ◌-◌, ◌*◌, ◌≤◌, ◌<◌, zero-le}
use native.Mathlib.Nat.{zero-mul, suc-mul, mul-le-mul_right, not-suc-le-zero}
use native.Mathlib.Omega.{arith}
use native.Mathlib.Decide.{dec_le}
use mathlib.Core.Path.{◌≡◌, refl, sym, ap, ap₂, ◌∙◌, subst}
use mathlib.Core.Logic.{inl, inr}
use mathlib.Core.Bool.{Bool, true, false, cond, not}
use mathlib.Core.Option.{Option, none, some}
use mathlib.Core.List.{List, [], ◌∷◌, ◌++◌}
use borrow.Author.Tests.{lt-ltb, ne_eqb}
use lib.ListN.{length, take, drop, get_elem?, length-take}
use lib.Seq.{slice, drop-drop}
use Rattle.objects.specs.Object.{Object, filemark, block, data_of, bytes_in}
use Rattle.objects.specs.Events.{Event, put, Clear, Stands, happens}
use Rattle.objects.proofs.Standing.{get_take_lt}
use Rattle.image.specs.Image.{count, entry, top_bit, end_at, object_at, objects}
use Rattle.image.specs.Parts.{part_of, shown}
use Rattle.views.specs.Views.{view_of}
use Rattle.image.proofs.Facts.{Sound, sound_of}
use Rattle.image.proofs.Objects.{length_objects, object_is, object_data}
use Rattle.record.specs.declared.drive.Drive.{Drive}
use Rattle.record.specs.Record.{decode_of}
use Rattle.codes.specs.declared.operation.Operation.TheVariants.{Write}
use Rattle.codes.specs.Codes.{code_of, operation_of}
use Rattle.codes.specs.Fields.{fixed_of, transfer_of}
use Rattle.objects.specs.Transfer.{blocks_of, marks_of, put_from}
use Rattle.commands.specs.Stop.{Stop}
use Rattle.answers.specs.Answers.{first}
use Rattle.commands.specs.Kinds.{writes}
use Rattle.commands.specs.Act.{offered}
use Rattle.commands.specs.Step.{acted}
use Rattle.commands.specs.Call.{lent, Result, command_tests, command_call, applied}
use Rattle.commands.proofs.Classes.{no_erase, no_offers}
use Rattle.history.specs.History.{Slot, slot0, slot1, number, Cartridge, part, MadeBlank, Lending, slices, is_lent_as, Call, command, mount, protection, commanded, after, caused, events, ends, past}
use Rattle.history.specs.Demand3.{meetings}
use Rattle.history.specs.Tiles.{Kept, tile_length, tile_of, TileKept, MarkKept, Harmless, AllHarmless, Agree}
use Rattle.history.proofs.Lists.{get_lt, get_get_d}
use Rattle.history.proofs.Ended.{Finished, by_number, by_sense, by_act, ended, nothing_offered}
use Rattle.history.proofs.Answered.{puts_bytes, length_blocks, answered}
use Rattle.history.proofs.Told.{told, still_sound, none_either, past_append}
use Rattle.history.proofs.ReadBack.{meets}
use Rattle.history.proofs.Proved.{demand3}

-- ---- what one command put stands, unless a later event touches it

later : (es fs : List Event) (k : ℕ) (o : Object) → Stands fs k o → Stands (es ++ fs) k o
unfolding Stands
later [] fs k o h = h
later (e ∷ es) fs k o h = inr (later es fs k o h)

clear_puts : (p : ℕ) (os : List Object) (fs : List Event) (k : ℕ) → k < p → Clear k fs → Clear k (put_from p os ++ fs)
unfolding Clear put_from
clear_puts p [] fs k h c = c
clear_puts p (o ∷ os) fs k h c = (h, clear_puts (suc p) os fs k (omega arith) c)

put_stands : (p : ℕ) (os : List Object) (fs : List Event) (i : ℕ) (o : Object) → get_elem? os i ≡ some o → Clear (p + i) fs → Stands (put_from p os ++ fs) (p + i) o
unfolding Stands put_from
put_stands p [] fs i o e c = absurd (let z : ◌≡◌ {A = ℕ} 0 1 = cc in omega arith)
put_stands p (x ∷ os) fs zero o e c =
    let q : x ≡ o = cc in
    let z : p ≡ p + 0 = omega arith in
    inl (ap₂ put z q, clear_puts (suc p) os fs (p + 0) (omega arith) c)
put_stands p (x ∷ os) fs (suc i) o e c =
    let z : suc p + i ≡ p + suc i = omega arith in
    inr (subst (λ (k : ℕ). Stands (put_from (suc p) os ++ fs) k o) z (put_stands (suc p) os fs i o e (subst (λ (k : ℕ). Clear k fs) (sym z) c)))

-- ---- the view of an object

view_at : (s : List ℕ) → Sound s → (i : ℕ) → i < count s → shown s (part_of s i) ≡ data_of (object_at s i)
unfolding part_of object_at
view_at s k i h = rw (sound_of s k, lt-ltb i (count s) h) (go (top_bit (entry s i)) refl)
  where
    go : (t : Bool) → top_bit (entry s i) ≡ t
        → shown s (cond (not t) (record { start = end_at s i; len = end_at s (suc i) - end_at s i }) (record { start = 0; len = 0 })) ≡ data_of (cond t filemark (block (slice (end_at s i) (end_at s (suc i)) s)))
    go true e = refl
    go false e =
        let z : end_at s i + (end_at s (suc i) - end_at s i) ≡ end_at s (suc i) = omega (arith, object_data s k i h) in
        ap (λ (t : ℕ). slice (end_at s i) t s) z

viewed : (s : Slot) (c : Cartridge) → Sound (part s c) → (k : ℕ) (x : Object) → get_elem? (objects (part s c)) k ≡ some x → shown (part s c) (view_of c.part0 c.part1 (number s) k) ≡ data_of x
viewed s c w k x e = by s w e
  where
    one : (p : List ℕ) → Sound p → get_elem? (objects p) k ≡ some x → shown p (part_of p k) ≡ data_of x
    one p w e =
        let h : k < count p = omega (arith, get_lt (objects p) k x e, length_objects p) in
        view_at p w k h ∙ ap data_of (sym (object_is p k filemark h) ∙ get_get_d (objects p) k x filemark e)

    by : (s : Slot) → Sound (part s c) → get_elem? (objects (part s c)) k ≡ some x → shown (part s c) (view_of c.part0 c.part1 (number s) k) ≡ data_of x
    by slot0 w e = unfold view_of in one c.part0 w e
    by slot1 w e = unfold view_of in one c.part1 w e

-- ---- so it is kept

kept_of_lem : (s : Slot) (c : Cartridge) → MadeBlank (part s c) → (calls : List Call) (k : ℕ) (x : Object) → Stands (past s calls c) k x → Kept s c calls k x
kept_of_lem s c m calls k x h =
    let d = demand3 s c m calls in
    let e = (d.stands k x).1 h in
    record { stands = e; read = λ rec w b reads l. (d.met rec w b reads k l x).1 h; viewed = viewed s (ends calls c) (still_sound s c m calls) k x e }

module _ (s : Slot) (c : Cartridge) (m : MadeBlank (part s c)) (before : List Call) (l : Lending) (rec cmd sent received : List ℕ) (i : ℕ) (since : List Call) where
  abbrev call : Call
  call = command l rec cmd sent received

  abbrev then' : Cartridge
  then' = ends before c

  kept : (os : List Object) (x : Object) → is_lent_as s l (decode_of rec).current ≡ true → caused rec cmd sent (commanded l then' rec cmd sent received) ≡ put_from (decode_of rec).position os → get_elem? os i ≡ some x
      → Clear ((decode_of rec).position + i) (past s since (after call then')) → Kept s c (before ++ call ∷ since) ((decode_of rec).position + i) x
  kept os x here puts e u =
      let w : past s (call ∷ since) then' ≡ put_from (decode_of rec).position os ++ past s since (after call then') = unfold past events in rw (here, puts) refl in
      kept_of_lem s c m (before ++ call ∷ since) ((decode_of rec).position + i) x
      (rw (past_append s before (call ∷ since) c, w) (later (past s before c) _ ((decode_of rec).position + i) x (put_stands (decode_of rec).position os (past s since (after call then')) i x e u)))

-- ---- the tiles of a WRITE

get_block : (b n : ℕ) (s : List ℕ) (i : ℕ) → i < n → get_elem? (blocks_of b n s) i ≡ some (block (take b (drop (i * b) s)))
unfolding blocks_of
get_block b zero s i h = absurd (not-suc-le-zero h)
get_block b (suc n) s zero h = rw (zero-mul b) refl
get_block b (suc n) s (suc i) h =
    let z : b + i * b ≡ suc i * b = omega (arith, suc-mul i b) in
    get_block b n (drop b s) i (omega arith) ∙ ap (λ (x : List ℕ). some (block (take b x))) (drop-drop (i * b) b s ∙ ap (λ (k : ℕ). drop k s) z)

-- at most b bytes each
few_bytes : (b m n : ℕ) (s : List ℕ) → bytes_in (take m (blocks_of b n s)) ≤ length (take m (blocks_of b n s)) * b
unfolding bytes_in blocks_of
few_bytes b zero n s = zero-le
few_bytes b (suc m) zero s = zero-le
few_bytes b (suc m) (suc n) s = omega (arith, few_bytes b m n (drop b s), length-take b s, suc-mul (length (take m (blocks_of b n (drop b s)))) b)

-- so as many as the bytes carried have room for
enough : (i n b k : ℕ) → 0 < b → suc i * b ≤ k → k ≤ n * b → i < n
enough i n b k h l r = go (dec_le (suc i) n)
  where
    go : Dec (i < n) → i < n
    go (yes x) = x
    go (no x) =
        let y : n ≤ i = omega arith in
        let z : n * b ≤ i * b = mul-le-mul_right b y in
        absurd (omega (arith, suc-mul i b))

offered_tiles : (d : Drive) (cmd sent : List ℕ) (t : Bool) → fixed_of cmd ≡ t → 0 < cond t d.block_length (transfer_of cmd)
    → offered Write d cmd sent ≡ blocks_of (cond t d.block_length (transfer_of cmd)) (cond t (transfer_of cmd) 1) sent
unfolding offered blocks_of
offered_tiles d cmd sent true e h = rw e refl
offered_tiles d cmd sent false e h = rw (e, ne_eqb (transfer_of cmd) 0 (λ z. omega arith)) refl

pub tile_kept : (s : Slot) (c : Cartridge) → MadeBlank (part s c) → (before : List Call) (l : Lending) (rec cmd sent received : List ℕ) (i : ℕ) (since : List Call) → TileKept s c before l rec cmd sent received i since
tile_kept s c m before l rec cmd sent received i since t u =
    kept s c m before l rec cmd sent received i since (take moved tiles) (block (tile_of rec cmd sent i)) t.here puts found u
  where
    r : Result
    r = commanded l (ends before c) rec cmd sent received

    moved : ℕ
    moved = (decode_of r.rec).position - (decode_of rec).position

    n : ℕ
    n = cond (fixed_of cmd) (transfer_of cmd) 1

    tiles : List Object
    tiles = blocks_of (tile_length rec cmd) n sent

    puts : caused rec cmd sent r ≡ put_from (decode_of rec).position (take moved tiles)
    puts = unfold caused in rw (t.is, offered_tiles (decode_of rec) cmd sent (fixed_of cmd) refl t.some_bytes) refl

    bytes : r.answer.carried ≡ bytes_in (take moved tiles)
    bytes = (answered rec cmd (slices l (ends before c)).part0 (slices l (ends before c)).part1 sent received).carried t.is ∙ rw puts (puts_bytes (decode_of rec).position (take moved tiles))

    inside : i < length (take moved tiles)
    inside = enough i (length (take moved tiles)) (tile_length rec cmd) r.answer.carried t.some_bytes t.carried (rw bytes (few_bytes (tile_length rec cmd) moved n sent))

    found : get_elem? (take moved tiles) i ≡ some (block (tile_of rec cmd sent i))
    found = get_take_lt moved i tiles (omega (arith, inside, length-take moved tiles)) ∙ get_block (tile_length rec cmd) n sent i (omega (arith, inside, length-take moved tiles, length_blocks (tile_length rec cmd) n sent))

-- ---- the filemarks of a WRITE FILEMARKS

get_mark : (n i : ℕ) → i < n → get_elem? (marks_of n) i ≡ some filemark
unfolding marks_of
get_mark zero i h = absurd (not-suc-le-zero h)
get_mark (suc n) zero h = refl
get_mark (suc n) (suc i) h = get_mark n i (omega arith)

pub mark_kept : (s : Slot) (c : Cartridge) → MadeBlank (part s c) → (before : List Call) (l : Lending) (rec cmd sent received : List ℕ) (i : ℕ) (since : List Call) → MarkKept s c before l rec cmd sent received i since
mark_kept s c m before l rec cmd sent received i since t u =
    let r : Result = commanded l (ends before c) rec cmd sent received in
    let moved : ℕ = (decode_of r.rec).position - (decode_of rec).position in
    let puts : caused rec cmd sent r ≡ put_from (decode_of rec).position (take moved (marks_of (transfer_of cmd))) = unfold caused offered in rw t.is refl in
    kept s c m before l rec cmd sent received i since (take moved (marks_of (transfer_of cmd))) filemark t.here puts
    (get_take_lt moved i (marks_of (transfer_of cmd)) (omega (arith, t.moved)) ∙ get_mark (transfer_of cmd) i t.asked) u

-- ---- what loses nothing

quiet_causes : (rec cmd sent : List ℕ) (r : Result) → writes (operation_of (code_of cmd)) ≡ false → caused rec cmd sent r ≡ []
quiet_causes rec cmd sent r h = nothing_offered rec cmd sent r (operation_of (code_of cmd)) refl (no_erase (operation_of (code_of cmd)) h) (no_offers (operation_of (code_of cmd)) h (decode_of rec) cmd sent)

stopped_causes : (rec cmd p0 p1 sent received : List ℕ) → (first (command_tests rec (lent cmd p0 p1 sent received)) ≡ none → ⊥) → caused rec cmd sent (command_call rec (lent cmd p0 p1 sent received)) ≡ []
stopped_causes rec cmd p0 p1 sent received h = go (first (command_tests rec (lent cmd p0 p1 sent received))) refl
  where
    go : (t : Option Stop) → first (command_tests rec (lent cmd p0 p1 sent received)) ≡ t → caused rec cmd sent (command_call rec (lent cmd p0 p1 sent received)) ≡ []
    go none e = absurd (h e)
    go (some s) e = (answered rec cmd p0 p1 sent received).stopped s e

no_changes : (s : Slot) (x : Call) (c : Cartridge) → Harmless x c → events s x c ≡ []
unfolding events
no_changes s (mount l rec) c h = refl
no_changes s (protection t on) c h = refl
no_changes s (command l rec cmd sent received) c (inl h) = none_either (is_lent_as s l (decode_of rec).current) _ (quiet_causes rec cmd sent (commanded l c rec cmd sent received) h)
no_changes s (command l rec cmd sent received) c (inr h) = none_either (is_lent_as s l (decode_of rec).current) _ (stopped_causes rec cmd (slices l c).part0 (slices l c).part1 sent received h)

no_past : (s : Slot) (xs : List Call) (c : Cartridge) → AllHarmless xs c → past s xs c ≡ []
unfolding past AllHarmless
no_past s [] c h = refl
no_past s (x ∷ xs) c h = rw (no_changes s x c h.0) (no_past s xs (after x c) h.1)

agreed : (s : Slot) (c d : Cartridge) → objects (part s c) ≡ objects (part s d) → Agree s c d
agreed s c d h = record {
  same = h;
  read = λ rec rec' m a m' a' reads reads' e. meets s rec c m a reads ∙ ap₂ meetings e h ∙ sym (meets s rec' d m' a' reads');
}

pub nothing_lost : (s : Slot) (c : Cartridge) → MadeBlank (part s c) → (calls since : List Call) → AllHarmless since (ends calls c) → Agree s (ends calls c) (ends since (ends calls c))
nothing_lost s c m calls since h =
    let t = told s since (ends calls c) (still_sound s c m calls) in
    agreed s (ends calls c) (ends since (ends calls c)) (sym (t.makes ∙ rw (no_past s since (ends calls c) h) (unfold happens in refl)))

-- a call that is refused by number is stopped
pub refused_harmless : (l : Lending) (rec cmd sent received : List ℕ) (c : Cartridge) → ((commanded l c rec cmd sent received).answer.refusal ≡ 0 → ⊥) → Harmless (command l rec cmd sent received) c
unfolding applied acted
refused_harmless l rec cmd sent received c h = go (ended rec cmd (slices l c).part0 (slices l c).part1 sent received)
  where
    go : Finished rec cmd (slices l c).part0 (slices l c).part1 sent received → Harmless (command l rec cmd sent received) c
    go (by_number n k f e) = inr (λ q. let z : ◌≡◌ {A = ℕ} 0 1 = cc in omega arith)
    go (by_sense z f x b w p k e) = inr (λ q. let z : ◌≡◌ {A = ℕ} 0 1 = cc in omega arith)
    go (by_act f w q e) = absurd (h (ap (λ (r : Result). r.answer.refusal) e))

-- two drives that take turns: the calls of a life name their records, so any two that are mounted at its end read the same
pub drives_agree : (s : Slot) (c : Cartridge) → Agree s c c
drives_agree s c = agreed s c c refl

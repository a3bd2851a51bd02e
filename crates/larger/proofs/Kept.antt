-- A block of any length to the largest, once put, stands whole: it is read back by reads of the largest block, and viewed, until a command writes or
-- erases at its number or lower. And the image that has just room for it.
-- Assumes nothing.
use Prim.Native.Nat.{ℕ, ◌+◌, ◌-◌, ◌*◌, ◌≤◌, ◌<◌}
use native.Mathlib.Nat.{zero-mul}
use native.Mathlib.Omega.{arith}
use mathlib.Core.Path.{◌≡◌, refl, sym, ◌∙◌, subst}
use mathlib.Core.Bool.{true, false}
use mathlib.Core.List.{List, [], ◌∷◌, ◌++◌}
use borrow.Author.Tests.{eq-eqb, lt-leb, lt-ltb}
use lib.ListN.{length, take}
use Rattle.objects.specs.Object.{block, largest_block}
use Rattle.objects.specs.Events.{Clear, put, happen}
use Rattle.objects.specs.Room.{entry_length, trailer_length}
use Rattle.image.specs.Image.{least_length, most_length, end_at, room, fits, zone, objects}
use Rattle.image.proofs.Facts.{room_fits}
use Rattle.changes.specs.Changes.{occur}
use Rattle.changes.proofs.Obeys.{Admits, obeys, put_next}
use Rattle.trailers.specs.Trailers.{blank}
use Rattle.trailers.proofs.Trailers.{Blanked, blanks}
use Rattle.record.specs.Record.{decode_of}
use Rattle.commands.specs.Call.{Lent, lent}
use Rattle.history.specs.History.{Slot, number, Cartridge, part, MadeBlank, together, Call, command, after, ends, past}
use Rattle.history.specs.Tiles.{Kept, tile_length, tile_of, TilePut}
use Rattle.history.proofs.Tiles.{tile_kept}
use Rattle.larger.specs.Blocks.{current_of, Writes}
use Rattle.larger.proofs.Blocks.{put_whole}

module _ (s : Slot) (c : Cartridge) (m : MadeBlank (part s c)) (before : List Call) (rec cmd sent received : List ℕ) (since : List Call) where
  abbrev x : Lent
  x = lent cmd (ends before c).part0 (ends before c).part1 sent received

  pub whole_kept : (n : ℕ) → Writes n rec x → 1 ≤ n → n ≤ largest_block → fits (current_of rec x) (decode_of rec).position n ≡ true → (decode_of rec).current ≡ number s
      → Clear (decode_of rec).position (past s since (after (command together rec cmd sent received) (ends before c)))
      → Kept s c (before ++ command together rec cmd sent received ∷ since) (decode_of rec).position (block (take n sent))
  whole_kept n w least most f here u =
      subst (λ (k : ℕ). Kept s c (before ++ command together rec cmd sent received ∷ since) k (block (take n sent))) first
      (subst (λ (bs : List ℕ). Kept s c (before ++ command together rec cmd sent received ∷ since) ((decode_of rec).position + 0) (block bs)) tile
      (tile_kept s c m before together rec cmd sent received 0 since put_one (subst (λ (k : ℕ). Clear k (past s since (after (command together rec cmd sent received) (ends before c)))) (sym first) u)))
    where
      first : (decode_of rec).position + 0 ≡ (decode_of rec).position
      first = omega arith

      long : tile_length rec cmd ≡ n
      long = rw w.variable w.asks

      tile : tile_of rec cmd sent 0 ≡ take n sent
      tile = rw (long, zero-mul n) refl

      put_one : TilePut s (ends before c) together rec cmd sent received 0
      put_one = record {
        here = eq-eqb (decode_of rec).current (number s) here;
        is = w.is;
        some_bytes = omega (arith, long);
        carried = rw (put_whole n rec x w least most f) (omega (arith, long));
      }

-- ---- a blank image: what has room on it, and one that a block just fills

module _ (s : List ℕ) (low : least_length ≤ length s) (high : length s ≤ most_length) (n : ℕ) where
  new : Blanked s
  new = blanks s low high

  none_before : end_at (blank s) 0 ≡ 0
  unfolding end_at
  none_before = refl

  pub has_room : n + entry_length + trailer_length ≤ length s → fits (blank s) 0 n ≡ true
  has_room h = room_fits (blank s) 0 n (omega (arith, none_before, new.same_length))

  pub has_no_room : length s < n + entry_length + trailer_length → fits (blank s) 0 n ≡ false
  unfolding fits room
  has_no_room h = rw (none_before, new.same_length) (lt-leb (entry_length + n) (length s - trailer_length - (entry_length * 0 + 0)) (omega arith))

  module _ (bs : List ℕ) (all : length bs ≡ n) (least : 1 ≤ n) (most : n ≤ largest_block) (room_for : n + entry_length + trailer_length ≤ length s) where
    pub admitted : Admits (put 0 (block bs)) (blank s)
    admitted = (omega arith, (omega arith, omega arith), rw all (has_room room_for))

    pub alone_there : objects (occur (put 0 (block bs)) (blank s)) ≡ block bs ∷ []
    unfolding happen
    alone_there = (obeys (put 0 (block bs)) (blank s) new.sound admitted).makes

    pub fills : length s ≡ n + entry_length + trailer_length → zone (occur (put 0 (block bs)) (blank s)) 1 ≡ true
    unfolding zone room
    fills h =
        let l : length (occur (put 0 (block bs)) (blank s)) ≡ n + entry_length + trailer_length = (obeys (put 0 (block bs)) (blank s) new.sound admitted).same_length ∙ new.same_length ∙ h in
        let e : end_at (occur (put 0 (block bs)) (blank s)) 1 ≡ n = (put_next 0 (block bs) (blank s) new.sound admitted).1 ∙ omega (arith, none_before) in
        rw (l, e) (lt-ltb ((n + entry_length + trailer_length - trailer_length - (entry_length * 1 + n)) * 16) (n + entry_length + trailer_length - trailer_length) (omega arith))

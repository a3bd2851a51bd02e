-- Q-7's cases, computed from the definitions; and those of a block that just fills an image, which has more bytes than the checker lays out, from the laws
-- of a variable WRITE (larger).
-- Assumes nothing.
use Prim.Native.Nat.{ℕ, ◌+◌, ◌≤◌, ◌<◌, zero-le}
use native.Mathlib.Omega.{arith}
use mathlib.Core.Path.{◌≡◌, refl, ◌∙◌}
use mathlib.Core.Bool.{true, ◌&&◌}
use mathlib.Core.List.{List, [], ◌∷◌}
use borrow.Author.Tests.{le-leb}
use lib.IntN.{pos}
use lib.ListN.{length, take}
use lib.Seq.{take_all}
use Rattle.words.specs.Words.{be, bytes, over}
use Rattle.words.specs.Signed.{signed, wrapped, fits32}
use Rattle.answers.specs.Answers.{first}
use Rattle.objects.specs.Object.{bytes_in, block, largest_block}
use Rattle.objects.specs.Events.{put}
use Rattle.objects.specs.Movement as M
use Rattle.objects.specs.Transfer.{run_of, blocks_of, fitting, put_from}
use Rattle.image.specs.Image.{most_length, count, flags, protected, directory, size, entry, top_bit, low31, end_at, follows, ordered, right_length, sound, fits, zone, object_at, upto, objects}
use Rattle.image.specs.Example.{E}
use Rattle.image.proofs.Facts.{sound_of}
use Rattle.changes.specs.Changes.{retitle, entry_of, enter, occur, occurs, cleared}
use Rattle.changes.proofs.Obeys.{obeys}
use Rattle.trailers.specs.Trailers.{blank, protect, reflag}
use Rattle.trailers.proofs.Trailers.{Blanked, blanks}
use Rattle.sense.specs.Sense.{sense_bytes, reports, told, empty_sense, attention_sense}
use Rattle.record.specs.Record.{decode_of, encode_of, attention_known, empty_handed, placed, well_formed, well_record, with_sense, unloaded, loaded_anew}
use Rattle.codes.specs.Codes.{too_short, in_masks, masks_hold}
use Rattle.codes.specs.Fields.{fixed_of, sili_of, transfer_of, long_of, load_of, dbd_of, page_of, pf_of, allocation_of}
use Rattle.codes.specs.Six.{six}
use Rattle.house.specs.Mount.{right_lengths, both_sound, mount_fault, mount_call}
use Rattle.commands.specs.Act.{eom_at_end, hidden, read_variable, run_tells, reading, offered, goes_down, wrote, writing, selecting, reply_of, act, events_of, overflowed}
use Rattle.commands.specs.Tests.{bytes_asked, field_error, taken, reply_length, needed, tests}
use Rattle.commands.specs.Step.{status_of, kept_of, stopped, acted, unless, step}
use Rattle.commands.specs.Call.{Lent, lent, result_of, looks_at, seen_of, seen, inserted, laid_out, applied, step_of, called, command_call}
use Rattle.commands.specs.Parameters.{block_limits, mode_data, list_length_known, header_right, descriptor_right, list_right}
use Rattle.larger.specs.Blocks.{Writes}
use Rattle.larger.proofs.Blocks.{put_whole, not_put, too_long}
use Rattle.larger.proofs.Kept.{has_room, has_no_room, admitted, alone_there, fills}
use Rattle.edges.specs.Cases.{sense18, nothing_kept}
use Rattle.edges.specs.Traps.{Traps, guarded, plain, check}
use Rattle.edges.specs.Mounted.{Mountings, started}
use Rattle.edges.specs.Larger.{lengths_set, mounts_over, lengths_asked, Promised, promises, Fills, DoesNotFit, IsTooLong}

pub lengths_set_lem : Traps lengths_set
unfolding Traps lengths_set E be bytes over signed wrapped bytes_in M.residue
    count flags protected directory size entry top_bit low31 end_at follows ordered right_length sound object_at upto objects retitle entry_of enter occur occurs cleared
    fits32 sense_bytes reports told empty_sense attention_sense decode_of encode_of attention_known empty_handed placed well_formed well_record with_sense unloaded loaded_anew too_short in_masks masks_hold
    fixed_of sili_of transfer_of long_of load_of dbd_of page_of pf_of allocation_of
    first run_of blocks_of fitting put_from eom_at_end hidden read_variable run_tells reading offered goes_down wrote writing selecting reply_of act events_of
    bytes_asked field_error taken reply_length needed tests status_of kept_of stopped acted unless step looks_at seen_of seen inserted laid_out applied step_of called command_call
    block_limits mode_data list_length_known header_right descriptor_right list_right
lengths_set_lem = (refl, (refl, (refl, (refl, (refl, (refl, (refl, (refl, (refl, (refl, (refl, (refl, (refl, (refl, (refl, (refl, (refl, tt)))))))))))))))))

pub mounts_over_lem : Mountings mounts_over
unfolding Mountings mounts_over E be bytes count flags protected directory size entry top_bit low31 end_at follows ordered right_length sound
    decode_of attention_known empty_handed placed well_formed well_record first right_lengths both_sound mount_fault mount_call
mounts_over_lem = (refl, (refl, (refl, (refl, tt))))

pub lengths_asked_lem : Traps lengths_asked
unfolding Traps lengths_asked E guarded protect reflag be bytes over signed wrapped bytes_in M.residue
    count flags protected directory size entry top_bit low31 end_at follows ordered right_length sound object_at upto objects retitle entry_of enter occur occurs cleared
    fits32 sense_bytes reports told empty_sense attention_sense decode_of encode_of attention_known empty_handed placed well_formed well_record with_sense unloaded loaded_anew too_short in_masks masks_hold
    fixed_of sili_of transfer_of long_of load_of dbd_of page_of pf_of allocation_of
    first run_of blocks_of fitting put_from eom_at_end hidden read_variable run_tells reading offered goes_down wrote writing selecting reply_of act events_of
    bytes_asked field_error taken reply_length needed tests status_of kept_of stopped acted unless step looks_at seen_of seen inserted laid_out applied step_of called command_call
    block_limits mode_data list_length_known header_right descriptor_right list_right
lengths_asked_lem = (refl, (refl, (refl, (refl, (refl, (refl, (refl, (refl, (refl, (refl, (refl, (refl, (refl, (refl, (refl, (refl, (refl, tt)))))))))))))))))

pub promised_so : Promised promises
unfolding Promised promises follows top_bit low31
promised_so = (refl, (refl, (refl, (refl, (refl, (refl, (refl, (refl, (refl, (refl, (refl, (refl, tt))))))))))))

-- ---- a WRITE of n bytes on a blank image

module _ (n : ℕ) (s sent : List ℕ) (low : 64 ≤ length s) (high : length s ≤ most_length) (all : length sent ≡ n) (masks : masks_hold (six 0x0A 0 n) ≡ true) (asks : transfer_of (six 0x0A 0 n) ≡ n) where
  abbrev x : Lent
  x = lent (six 0x0A 0 n) (blank s) [] sent []

  new : Blanked s
  new = blanks s low high

  faultless : well_record (started 0 nothing_kept) && inserted (decode_of (started 0 nothing_kept)) (blank s) [] ≡ true
  unfolding well_record well_formed attention_known placed decode_of inserted be bytes
  faultless = rw (sound_of (blank s) new.sound, le-leb 0 (count (blank s)) zero-le) refl

  ready : Writes n (started 0 nothing_kept) (lent (six 0x0A 0 n) (blank s) [] sent [])
  unfolding decode_of be bytes too_short fixed_of protected
  ready = record {
    is = refl;
    whole = refl;
    masks = masks;
    variable = refl;
    asks = asks;
    mounted = record { no_fault = faultless; loaded = refl; no_attention_lem = refl };
    unguarded = rw new.no_flags refl;
    sends = omega arith;
  }

  filled : 1 ≤ n → n ≤ largest_block → length s ≡ n + 20
      → (command_call (started 0 nothing_kept) (lent (six 0x0A 0 n) (blank s) [] sent [])
      ≡ result_of (check n) (started 1 (sense18 0xF0 0x40 0 0x00 0x02)) (lent (six 0x0A 0 n) (occur (put 0 (block sent)) (blank s)) [] sent []))
      × (sound (occur (put 0 (block sent)) (blank s)) ≡ true)
      × (objects (occur (put 0 (block sent)) (blank s)) ≡ block sent ∷ [])
  unfolding decode_of encode_of with_sense sense_bytes told reports wrapped fits32 be bytes
  filled least most h =
      let f : fits (blank s) 0 n ≡ true = has_room s low high n (omega arith) in
      let e : take n sent ≡ sent = take_all n sent (omega arith) in
      let z : zone (occur (put 0 (block sent)) (blank s)) 1 ≡ true = fills s low high n sent all least most (omega arith) (omega arith) in
      let o = obeys (put 0 (block sent)) (blank s) new.sound (admitted s low high n sent all least most (omega arith)) in (
        put_whole n (started 0 nothing_kept) x ready least most f ∙ rw (e, z) refl,
        sound_of (occur (put 0 (block sent)) (blank s)) o.sound,
        alone_there s low high n sent all least most (omega arith),
      )

  left_out : 1 ≤ n → n ≤ largest_block → length s ≡ n + 19 → sense_bytes (overflowed (pos n)) ≡ sense18 0xF0 0x4D n 0x00 0x02
      → command_call (started 0 nothing_kept) (lent (six 0x0A 0 n) (blank s) [] sent [])
      ≡ result_of (check 0) (started 0 (sense18 0xF0 0x4D n 0x00 0x02)) (lent (six 0x0A 0 n) (blank s) [] sent [])
  unfolding decode_of encode_of with_sense be bytes
  left_out least most h t = not_put n (started 0 nothing_kept) x ready least most (has_no_room s low high n (omega arith)) ∙ rw t refl

  not_served : largest_block < n
      → command_call (started 0 nothing_kept) (lent (six 0x0A 0 n) (blank s) [] sent [])
      ≡ result_of (check 0) (started 0 (plain 5 0x24 0)) (lent (six 0x0A 0 n) (blank s) [] sent [])
  unfolding decode_of encode_of with_sense sense_bytes told reports be bytes
  not_served h = too_long n (started 0 nothing_kept) x ready h

-- ---- the lengths of Q-7

module _ (n : ℕ) (least : 45 ≤ n) (masks : masks_hold (six 0x0A 0 n) ≡ true) (asks : transfer_of (six 0x0A 0 n) ≡ n) where
  filling : n ≤ largest_block → Fills n
  filling most s sent h all = filled n s sent (omega arith) (omega arith) all masks asks (omega arith) most h

  leaving_out : n ≤ largest_block → sense_bytes (overflowed (pos n)) ≡ sense18 0xF0 0x4D n 0x00 0x02 → DoesNotFit n
  leaving_out most t s sent h all = left_out n s sent (omega arith) (omega arith) all masks asks (omega arith) most h t

  not_serving : largest_block < n → IsTooLong n
  not_serving h s sent low high all = not_served n s sent low high all masks asks h

pub filled_so : Fills 65537 × Fills 800000 × Fills 1048576
unfolding in_masks masks_hold transfer_of be bytes
filled_so = (filling 65537 (omega arith) refl refl (omega arith), filling 800000 (omega arith) refl refl (omega arith), filling 1048576 (omega arith) refl refl (omega arith))

pub left_out_so : DoesNotFit 65537 × DoesNotFit 800000 × DoesNotFit 1048576
unfolding in_masks masks_hold transfer_of be bytes sense_bytes told reports wrapped fits32
left_out_so = (leaving_out 65537 (omega arith) refl refl (omega arith) refl, leaving_out 800000 (omega arith) refl refl (omega arith) refl, leaving_out 1048576 (omega arith) refl refl (omega arith) refl)

pub too_long_so : IsTooLong 1048577
unfolding in_masks masks_hold transfer_of be bytes
too_long_so = not_serving 1048577 (omega arith) refl refl (omega arith)

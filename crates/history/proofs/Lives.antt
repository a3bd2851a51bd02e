-- The two lives of specs/Lives.antt, computed call by call from the definitions.
-- Assumes nothing.
use Prim.Native.Nat.{ℕ, ◌≤◌}
use native.Mathlib.Omega.{arith}
use mathlib.Core.Path.{◌≡◌, refl}
use mathlib.Core.Logic.{inl, inr}
use mathlib.Core.List.{[], ◌∷◌}
use mathlib.Core.Bool.{false}
use lib.ListN.{length, length-replicate}
use Rattle.words.specs.Words.{be, bytes, over, zeros}
use Rattle.words.specs.Signed.{signed, wrapped, fits32}
use Rattle.objects.specs.Object.{largest_block, bytes_in, filemarks_in}
use Rattle.objects.specs.Movement as M
use Rattle.image.specs.Image.{count, flags, protected, directory, size, entry, top_bit, low31, end_at, follows, ordered, right_length, sound, object_at, upto, objects}
use Rattle.changes.specs.Changes.{retitle, entry_of, enter, occur, occurs, cleared}
use Rattle.trailers.specs.Trailers.{blank, protect, reflag}
use Rattle.house.specs.Images.{blank_call, protect_call}
use Rattle.image.specs.Image.{fault_of}
use Rattle.sense.specs.Sense.{sense_bytes, parts_of, reports, told, empty_sense, attention_sense}
use Rattle.record.specs.Record.{decode_of, encode_of, attention_known, empty_handed, placed, well_formed, well_record, fresh_drive, mounted_drive, with_sense, unloaded, loaded_anew}
use Rattle.codes.specs.Codes.{too_short, in_masks, masks_hold}
use Rattle.codes.specs.Fields.{fixed_of, sili_of, transfer_of, space_code_of, space_count_of, long_of, load_of, pf_of, allocation_of}
use Rattle.house.specs.Mount.{right_lengths, both_sound, mount_fault, mount_call}
use Rattle.commands.specs.Parameters.{list_length_known, header_right, descriptor_right, list_right}
use Rattle.objects.specs.Transfer.{blocks_of, marks_of, fitting, put_from}
use Rattle.answers.specs.Answers.{first}
use Rattle.commands.specs.Act.{eom_at_end, hidden, read_variable, reading, offered, goes_down, wrote, writing, marking, space_tells, movement, spacing, selecting, reply_of, act, events_of}
use Rattle.commands.specs.Tests.{bytes_asked, field_error, taken, reply_length, needed, tests}
use Rattle.commands.specs.Step.{status_of, kept_of, stopped, acted, unless, step}
use Rattle.commands.specs.Call.{looks_at, seen_of, seen, inserted, laid_out, applied, step_of, called, command_tests, command_call}
use Rattle.history.specs.History.{slot0, slot1, after, caused, events, ends, past}
use Rattle.history.specs.Demand3.{Mounted, AtBeginning, Reading, meetings}
use Rattle.history.specs.Tiles.{AllHarmless}
use Rattle.history.specs.Always.{calls_of, record_used}
use Rattle.trailers.specs.Least.{blank64}
use Rattle.history.proofs.ReadBack.{meets}
use Rattle.history.specs.Lives.{uses, one_drive, several_drives, Computed}

-- zeros, as many as the largest block has bytes
enough : (n : ℕ) → n ≤ length (zeros n)
enough n = omega (arith, length-replicate {A = ℕ} n 0)

lends : Reading
lends = record { sili = false; sent = []; received = zeros largest_block; room = enough largest_block }

-- Reads of the largest block are not computed, which would lay out a megabyte: they meet what stands (`meets`), and that is computed.
pub computed : Computed
unfolding blank64 uses one_drive several_drives AllHarmless calls_of record_used after caused events ends past meetings parts_of
    eom_at_end hidden read_variable reading
    be bytes over signed wrapped fits32 bytes_in filemarks_in M.walk M.before M.ahead M.astern M.space M.residue M.to_end_of_data M.to_object
    count flags protected directory size entry top_bit low31 end_at follows ordered right_length sound object_at upto objects retitle entry_of enter occur occurs cleared blank protect reflag
    blank_call fault_of protect_call right_lengths both_sound mount_fault mount_call sense_bytes reports told empty_sense attention_sense
    decode_of encode_of attention_known empty_handed placed well_formed well_record fresh_drive mounted_drive with_sense unloaded loaded_anew too_short in_masks masks_hold
    fixed_of sili_of transfer_of space_code_of space_count_of long_of load_of pf_of allocation_of list_length_known header_right descriptor_right list_right
    first blocks_of marks_of fitting put_from offered goes_down wrote writing marking space_tells movement spacing selecting reply_of act events_of
    bytes_asked field_error taken reply_length needed tests status_of kept_of stopped acted unless step looks_at seen_of seen inserted laid_out applied step_of called command_tests command_call
computed =
    let m : Mounted one_drive.under (ends one_drive.calls one_drive.made) = record { no_fault = refl; loaded = refl; no_attention_lem = refl } in
    let b : AtBeginning slot0 one_drive.under = record { current = refl; position = refl } in
    let m' : Mounted several_drives.under (ends several_drives.calls several_drives.made) = record { no_fault = refl; loaded = refl; no_attention_lem = refl } in
    let b' : AtBeginning slot1 several_drives.under = record { current = refl; position = refl } in
    record {
      one = (refl, refl);
      first = (refl, refl);
      second = (refl, refl);
      one_blank = record { lent = zeros 64; answered = refl; left = refl };
      first_blank = record { lent = zeros 64; answered = refl; left = refl };
      second_blank = record { lent = zeros 64; answered = refl; left = refl };
      one_mounted = m;
      one_begins = b;
      mounted = m';
      begins = b';
      lends = lends;
      one_read = λ w x y z. meets slot0 _ _ m b (w ∷ x ∷ y ∷ z ∷ []);
      read = λ x y. meets slot1 _ _ m' b' (x ∷ y ∷ []);
      tile_put = record { here = refl; is = refl; some_bytes = omega arith; carried = omega arith };
      mark_put = record { here = refl; is = refl; asked = omega arith; moved = omega arith };
      harmless = (inl refl, (tt, (tt, (inr (λ q. let z : ◌≡◌ {A = ℕ} 0 1 = cc in omega arith), tt))));
    }

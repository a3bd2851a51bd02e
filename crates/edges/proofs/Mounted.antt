-- Q-3's cases, computed from the definitions; and the rows of the other lists that heed the block length, each found.
-- Assumes nothing.
use mathlib.Core.Path.{◌≡◌, refl}
use lib.ListN.{replicate}
use Rattle.words.specs.Words.{be, bytes, over}
use Rattle.words.specs.Signed.{signed, wrapped, fits32}
use Rattle.objects.specs.Object.{bytes_in}
use Rattle.objects.specs.Movement as M
use Rattle.image.specs.Image.{count, flags, protected, directory, size, entry, top_bit, low31, end_at, follows, ordered, right_length, sound, object_at, upto, objects}
use Rattle.changes.specs.Changes.{retitle, entry_of, enter, occur, occurs, cleared}
use Rattle.image.specs.Example.{E}
use Rattle.sense.specs.Sense.{sense_bytes, reports, told, empty_sense, attention_sense}
use Rattle.record.specs.Record.{decode_of, encode_of, attention_known, empty_handed, placed, well_formed, well_record, fresh_drive, mounted_drive, with_sense, unloaded, loaded_anew}
use Rattle.codes.specs.Codes.{too_short, in_masks, masks_hold}
use Rattle.codes.specs.Fields.{fixed_of, sili_of, transfer_of, long_of, load_of, dbd_of, page_of, pf_of, allocation_of}
use Rattle.answers.specs.Answers.{first}
use Rattle.objects.specs.Transfer.{run_of, blocks_of, fitting, put_from}
use Rattle.house.specs.Mount.{right_lengths, both_sound, fresh_call, mount_fault, mount_call}
use Rattle.commands.specs.Act.{eom_at_end, hidden, read_variable, run_tells, reading, offered, goes_down, wrote, writing, selecting, reply_of, act, events_of}
use Rattle.commands.specs.Tests.{bytes_asked, field_error, taken, reply_length, needed, tests}
use Rattle.commands.specs.Step.{status_of, kept_of, stopped, acted, unless, step}
use Rattle.commands.specs.Call.{looks_at, seen_of, seen, inserted, laid_out, applied, step_of, called, command_call}
use Rattle.commands.specs.Parameters.{mode_data, list_length_known, header_right, descriptor_right, list_right}
use Rattle.edges.specs.Cases.{bare64}
use Rattle.edges.specs.Traps.{Traps, traps}
use Rattle.edges.specs.Sixteen.{sixteens}
use Rattle.edges.specs.EndOfData.{on_side, before_the_zone, in_the_zone, across_the_zone}
use Rattle.edges.specs.Crossed.{spaced, on_two, not_spaced, not_by_space}
use Rattle.edges.specs.Merged.{merges, does_not_merge}
use Rattle.edges.specs.Descriptors.{empty_turned, marked_turned, unfit_turned, ones_turned, attention_turned, others_turned, leaving, asked}
use Rattle.edges.specs.Mounted.{Mountings, mountings, FreshLeaves0, after_a_mount, heeding, others, heeding_at0}

pub mounted_so : Mountings mountings
unfolding Mountings mountings bare64 E be bytes count flags protected directory size entry top_bit low31 end_at follows ordered right_length sound
    sense_bytes reports told empty_sense decode_of encode_of attention_known empty_handed placed well_formed well_record mounted_drive first right_lengths both_sound mount_fault mount_call
mounted_so = (refl, (refl, (refl, (refl, (refl, (refl, (refl, (refl, (refl, (refl, (refl, tt)))))))))))

-- of thirty bytes FFh
pub fresh_so : FreshLeaves0 (replicate 30 0xFF)
unfolding fresh_call first encode_of fresh_drive bytes sense_bytes reports told empty_sense
fresh_so = refl

pub started_so : Traps after_a_mount
unfolding Traps after_a_mount bare64 E be bytes over signed wrapped bytes_in M.residue
    count flags protected directory size entry top_bit low31 end_at follows ordered right_length sound object_at upto objects retitle entry_of enter occur occurs cleared
    fits32 sense_bytes reports told empty_sense attention_sense decode_of encode_of attention_known empty_handed placed well_formed well_record with_sense unloaded loaded_anew too_short in_masks masks_hold
    fixed_of sili_of transfer_of long_of load_of dbd_of page_of pf_of allocation_of
    first run_of blocks_of fitting put_from eom_at_end hidden read_variable run_tells reading offered goes_down wrote writing selecting reply_of act events_of
    bytes_asked field_error taken reply_length needed tests status_of kept_of stopped acted unless step looks_at seen_of seen inserted laid_out applied step_of called command_call
    mode_data list_length_known header_right descriptor_right list_right
started_so = (refl, (refl, (refl, (refl, (refl, (refl, (refl, (refl, (refl, (refl, (refl, (refl, (refl, (refl, (refl, (refl, (refl, (refl, (refl, (refl, (refl, (refl, (refl, (refl, tt))))))))))))))))))))))))

pub heeding_at_0 : heeding others ≡ heeding_at0
unfolding heeding traps sixteens before_the_zone in_the_zone across_the_zone on_side spaced on_two not_spaced not_by_space merges does_not_merge
    empty_turned marked_turned unfit_turned ones_turned attention_turned others_turned leaving asked be bytes decode_of fixed_of sili_of dbd_of
heeding_at_0 = refl

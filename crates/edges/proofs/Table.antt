-- P1 to P12 of 01, and the case beside them, as one statement about the definition of the whole call: each is computed, bytes to bytes.
-- Assumes nothing.
use mathlib.Core.Path.{refl}
use Rattle.words.specs.Words.{be, bytes, over}
use Rattle.words.specs.Signed.{signed, wrapped, fits32}
use Rattle.objects.specs.Object.{bytes_in, filemarks_in}
use Rattle.objects.specs.Movement as M
use Rattle.image.specs.Image.{count, flags, protected, directory, size, entry, top_bit, low31, end_at, follows, ordered, right_length, sound, object_at, upto, objects}
use Rattle.changes.specs.Changes.{retitle, entry_of, enter, occur, occurs, cleared}
use Rattle.trailers.specs.Trailers.{blank, protect, reflag}
use Rattle.image.specs.Example.{E}
use Rattle.sense.specs.Sense.{sense_bytes, reports, told, empty_sense, attention_sense}
use Rattle.sense.specs.Descriptors.{in_form}
use Rattle.record.specs.Record.{decode_of, encode_of, attention_known, empty_handed, placed, well_formed, well_record, with_sense, unloaded, loaded_anew}
use Rattle.codes.specs.Codes.{too_short, in_masks, masks_hold}
use Rattle.codes.specs.Fields.{fixed_of, sili_of, transfer_of, space_code_of, space_count_of, long_of, changes_partition, object_of, partition_of, load_of, form_of, dbd_of, page_of, pf_of, asks_descriptors, allocation_of}
use Rattle.answers.specs.Answers.{first}
use Rattle.objects.specs.Transfer.{run_of, blocks_of, marks_of, fitting, put_from}
use Rattle.commands.specs.Act.{eom_at_end, hidden, read_variable, run_tells, reading, offered, goes_down, wrote, writing, marking, space_tells, movement, spacing, target_of, locate_tells, locating, selecting, reply_of, act, events_of}
use Rattle.commands.specs.Tests.{bytes_asked, field_error, taken, reply_length, needed, tests}
use Rattle.commands.specs.Step.{status_of, kept_of, stopped, acted, unless, step}
use Rattle.commands.specs.Call.{looks_at, seen_of, seen, inserted, laid_out, applied, step_of, called, command_call}
use Rattle.commands.specs.Parameters.{block_limits, mode_data, list_length_known, header_right, descriptor_right, list_right, short_position, long_position}
use Rattle.edges.specs.Cases.{Edges, cases, bare64, full, ten, ten_and7, ten_and8}
use Rattle.edges.specs.Traps.{Traps, traps, guarded}

pub edges : Edges cases
unfolding Edges cases bare64 full ten ten_and7 ten_and8 E be bytes over signed wrapped bytes_in filemarks_in M.walk M.before M.ahead M.astern M.space M.residue M.to_end_of_data M.to_object M.locate
    count flags protected directory size entry top_bit low31 end_at follows ordered right_length sound object_at upto objects retitle entry_of enter occur occurs cleared blank
    fits32 sense_bytes reports told empty_sense attention_sense in_form decode_of encode_of attention_known empty_handed placed well_formed well_record with_sense too_short in_masks masks_hold
    fixed_of sili_of transfer_of space_code_of space_count_of long_of changes_partition object_of partition_of load_of form_of dbd_of page_of pf_of asks_descriptors allocation_of
    first run_of blocks_of marks_of fitting put_from eom_at_end hidden read_variable run_tells reading offered goes_down wrote writing marking space_tells movement spacing target_of locate_tells locating selecting reply_of act events_of
    bytes_asked field_error taken reply_length needed tests status_of kept_of stopped acted unless step looks_at seen_of seen inserted laid_out applied step_of called command_call list_length_known header_right descriptor_right list_right
edges = (refl, (refl, (refl, (refl, (refl, (refl, (refl, (refl, (refl, (refl, (refl, (refl, (refl, (refl, (refl, (refl, tt))))))))))))))))

-- and the cases beside the table
pub trapped : Traps traps
unfolding Traps traps full guarded ten E be bytes over signed wrapped bytes_in filemarks_in M.walk M.before M.ahead M.astern M.space M.residue M.to_end_of_data M.to_object M.locate
    count flags protected directory size entry top_bit low31 end_at follows ordered right_length sound object_at upto objects retitle entry_of enter occur occurs cleared blank
    fits32 sense_bytes reports told empty_sense attention_sense in_form decode_of encode_of attention_known empty_handed placed well_formed well_record with_sense too_short in_masks masks_hold
    fixed_of sili_of transfer_of space_code_of space_count_of long_of changes_partition object_of partition_of load_of form_of dbd_of page_of pf_of asks_descriptors allocation_of
    first run_of blocks_of marks_of fitting put_from eom_at_end hidden read_variable run_tells reading offered goes_down wrote writing marking space_tells movement spacing target_of locate_tells locating selecting reply_of act events_of
    bytes_asked field_error taken reply_length needed tests status_of kept_of stopped acted unless step looks_at seen_of seen inserted laid_out applied step_of called command_call protect reflag block_limits mode_data list_length_known header_right descriptor_right list_right short_position long_position unloaded loaded_anew
trapped = (refl, (refl, (refl, (refl, (refl, (refl, (refl, (refl, (refl, (refl, (refl, (refl, (refl, (refl, (refl, (refl, (refl, (refl, (refl, (refl, (refl, (refl, (refl, (refl, (refl, (refl, (refl, (refl, (refl, (refl, (refl, (refl, (refl, (refl, (refl, (refl, (refl, (refl, (refl, (refl, (refl, (refl, (refl, (refl, (refl, (refl, tt))))))))))))))))))))))))))))))))))))))))))))))

-- How far a SPACE went, and that no other call says so, as statements about the definition of the whole call: each case is computed, bytes to bytes.
-- Assumes nothing.
use mathlib.Core.Path.{refl}
use Rattle.words.specs.Words.{be, bytes, over}
use Rattle.words.specs.Signed.{signed, wrapped, fits32}
use Rattle.objects.specs.Object.{bytes_in}
use Rattle.objects.specs.Movement as M
use Rattle.objects.specs.Transfer.{run_of, marks_of, fitting, put_from}
use Rattle.image.specs.Image.{count, flags, protected, directory, size, entry, top_bit, low31, end_at, follows, ordered, right_length, sound, object_at, upto, objects}
use Rattle.changes.specs.Changes.{retitle, entry_of, enter, occur, occurs}
use Rattle.image.specs.Example.{E}
use Rattle.sense.specs.Sense.{sense_bytes, reports, told, empty_sense, attention_sense}
use Rattle.record.specs.Record.{decode_of, encode_of, attention_known, empty_handed, placed, well_formed, well_record, with_sense, loaded_anew}
use Rattle.codes.specs.Codes.{too_short, in_masks, masks_hold}
use Rattle.codes.specs.Fields.{fixed_of, sili_of, transfer_of, space_code_of, space_count_of, space_count16_of, long_of, changes_partition, object_of, partition_of, destination_of, partition16_of, identifier_of, load_of, allocation_of}
use Rattle.answers.specs.Answers.{first}
use Rattle.commands.specs.Act.{eom_at_end, hidden, read_variable, run_tells, reading, offered, goes_down, wrote, marking, space_tells, movement, spacing, target_of, destination16, locate_tells, locating, act, events_of}
use Rattle.commands.specs.Tests.{bytes_asked, field_error, taken, reply_length, needed, tests}
use Rattle.commands.specs.Step.{status_of, kept_of, stopped, acted, unless, step}
use Rattle.commands.specs.Call.{looks_at, seen_of, seen, inserted, laid_out, applied, step_of, called, command_call}
use Rattle.edges.specs.Cases.{bare64}
use Rattle.edges.specs.Traps.{Traps}
use Rattle.edges.specs.Sixteen.{files}
use Rattle.edges.specs.Crossed.{marked, mixed, spaced, on_two, not_spaced, not_by_space}

pub goes_as_far : Traps spaced × Traps on_two × Traps not_spaced × Traps not_by_space
unfolding Traps spaced on_two not_spaced not_by_space marked mixed files bare64 E be bytes over signed wrapped fits32 bytes_in M.walk M.before M.ahead M.astern M.space M.residue M.to_end_of_data M.to_object M.to_file M.locate
    run_of marks_of fitting put_from count flags protected directory size entry top_bit low31 end_at follows ordered right_length sound object_at upto objects retitle entry_of enter occur occurs
    sense_bytes reports told empty_sense attention_sense decode_of encode_of attention_known empty_handed placed well_formed well_record with_sense loaded_anew too_short in_masks masks_hold
    fixed_of sili_of transfer_of space_code_of space_count_of space_count16_of long_of changes_partition object_of partition_of destination_of partition16_of identifier_of load_of allocation_of first
    eom_at_end hidden read_variable run_tells reading offered goes_down wrote marking space_tells movement spacing target_of destination16 locate_tells locating act events_of
    bytes_asked field_error taken reply_length needed tests status_of kept_of stopped acted unless step looks_at seen_of seen inserted laid_out applied step_of called command_call
goes_as_far = (
  (refl, (refl, (refl, (refl, (refl, (refl, (refl, (refl, (refl, (refl, (refl, (refl, (refl, (refl, (refl, (refl, (refl, (refl, (refl, (refl, (refl, (refl, (refl, (refl, (refl, (refl, (refl, (refl, (refl, (refl, (refl, (refl, (refl, (refl, (refl, tt))))))))))))))))))))))))))))))))))),
  (refl, (refl, (refl, (refl, (refl, tt))))),
  (refl, (refl, (refl, (refl, (refl, (refl, (refl, tt))))))),
  (refl, (refl, (refl, (refl, (refl, (refl, (refl, (refl, tt)))))))),
)

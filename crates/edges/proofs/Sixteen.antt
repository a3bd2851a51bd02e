-- The cases of LOCATE (16) and SPACE (16), as one statement about the definition of the whole call: each is computed, bytes to bytes.
-- Assumes nothing.
use mathlib.Core.Path.{refl}
use Rattle.words.specs.Words.{be, bytes, over}
use Rattle.words.specs.Signed.{signed, wrapped, fits32}
use Rattle.objects.specs.Object.{bytes_in}
use Rattle.objects.specs.Movement as M
use Rattle.objects.specs.Transfer.{fitting, put_from}
use Rattle.image.specs.Image.{count, flags, protected, directory, size, entry, top_bit, low31, end_at, follows, ordered, right_length, sound, object_at, upto, objects}
use Rattle.changes.specs.Changes.{occurs}
use Rattle.trailers.specs.Trailers.{protect, reflag}
use Rattle.image.specs.Example.{E}
use Rattle.sense.specs.Sense.{sense_bytes, reports, told, empty_sense, attention_sense}
use Rattle.record.specs.Record.{decode_of, encode_of, attention_known, empty_handed, placed, well_formed, well_record, with_sense}
use Rattle.codes.specs.Codes.{too_short, in_masks, masks_hold}
use Rattle.codes.specs.Fields.{transfer_of, space_code_of, space_count16_of, long_of, changes_partition, destination_of, partition16_of, identifier_of, allocation_of}
use Rattle.answers.specs.Answers.{first}
use Rattle.commands.specs.Act.{eom_at_end, offered, goes_down, space_tells, movement, spacing, target_of, destination16, locate_tells, locating, act, events_of}
use Rattle.commands.specs.Tests.{bytes_asked, field_error, taken, reply_length, needed, tests}
use Rattle.commands.specs.Step.{status_of, kept_of, stopped, acted, unless, step}
use Rattle.commands.specs.Call.{looks_at, seen_of, seen, inserted, laid_out, applied, step_of, called, command_call}
use Rattle.edges.specs.Cases.{full}
use Rattle.edges.specs.Traps.{Traps, guarded}
use Rattle.edges.specs.Sixteen.{sixteens, files}

pub in_sixteen : Traps sixteens
unfolding Traps sixteens files full guarded E be bytes over signed wrapped fits32 bytes_in M.walk M.before M.ahead M.astern M.space M.residue M.to_end_of_data M.to_object M.to_file M.locate
    fitting put_from count flags protected directory size entry top_bit low31 end_at follows ordered right_length sound object_at upto objects occurs protect reflag
    sense_bytes reports told empty_sense attention_sense decode_of encode_of attention_known empty_handed placed well_formed well_record with_sense too_short in_masks masks_hold
    transfer_of space_code_of space_count16_of long_of changes_partition destination_of partition16_of identifier_of allocation_of first
    eom_at_end offered goes_down space_tells movement spacing target_of destination16 locate_tells locating act events_of
    bytes_asked field_error taken reply_length needed tests status_of kept_of stopped acted unless step looks_at seen_of seen inserted laid_out applied step_of called command_call
in_sixteen = (refl, (refl, (refl, (refl, (refl, (refl, (refl, (refl, (refl, (refl, (refl, (refl, (refl, (refl, (refl, (refl, (refl, (refl, (refl, (refl, (refl, (refl, (refl, (refl, (refl, (refl, (refl, (refl, (refl, (refl, (refl, (refl, (refl, (refl, (refl, (refl, (refl, (refl, (refl, (refl, (refl, (refl, (refl, (refl, (refl, (refl, (refl, (refl, (refl, (refl, (refl, (refl, (refl, (refl, (refl, (refl, (refl, (refl, tt))))))))))))))))))))))))))))))))))))))))))))))))))))))))))

-- Two SPACEs or one, as statements about the definition of the whole call: each case is computed, bytes to bytes.
-- Assumes nothing.
use mathlib.Core.Path.{refl}
use Rattle.words.specs.Words.{be, bytes, over}
use Rattle.words.specs.Signed.{signed, wrapped, fits32}
use Rattle.objects.specs.Object.{bytes_in}
use Rattle.objects.specs.Movement as M
use Rattle.objects.specs.Transfer.{fitting, put_from}
use Rattle.image.specs.Image.{count, flags, protected, directory, size, entry, top_bit, low31, end_at, follows, ordered, right_length, sound, object_at, upto, objects}
use Rattle.changes.specs.Changes.{occurs}
use Rattle.image.specs.Example.{E}
use Rattle.sense.specs.Sense.{sense_bytes, reports, told, empty_sense, attention_sense}
use Rattle.record.specs.Record.{decode_of, encode_of, attention_known, placed, well_formed, well_record, with_sense}
use Rattle.codes.specs.Codes.{too_short, in_masks, masks_hold}
use Rattle.codes.specs.Fields.{space_code_of, space_count_of, space_count16_of}
use Rattle.answers.specs.Answers.{first}
use Rattle.commands.specs.Act.{eom_at_end, offered, goes_down, space_tells, movement, spacing, act, events_of}
use Rattle.commands.specs.Tests.{field_error, taken, reply_length, needed, tests}
use Rattle.commands.specs.Step.{status_of, kept_of, stopped, acted, unless, step}
use Rattle.commands.specs.Call.{looks_at, seen_of, seen, inserted, laid_out, applied, step_of, called, command_call}
use Rattle.trailers.specs.Trailers.{protect, reflag}
use Rattle.edges.specs.Cases.{ten}
use Rattle.edges.specs.Traps.{Traps}
use Rattle.edges.specs.Sixteen.{files}
use Rattle.edges.specs.Crossed.{marked, mixed}
use Rattle.edges.specs.Merged.{Groups, parted, guarded_mixed, merges, does_not_merge}

pub merges_or_not : Groups merges × Groups does_not_merge
unfolding Groups Traps merges does_not_merge marked mixed parted guarded_mixed protect reflag ten files E be bytes over signed wrapped fits32 bytes_in M.walk M.before M.ahead M.astern M.space M.residue
    fitting put_from count flags protected directory size entry top_bit low31 end_at follows ordered right_length sound object_at upto objects occurs
    sense_bytes reports told empty_sense attention_sense decode_of encode_of attention_known placed well_formed well_record with_sense too_short in_masks masks_hold
    space_code_of space_count_of space_count16_of first
    eom_at_end offered goes_down space_tells movement spacing act events_of
    field_error taken reply_length needed tests status_of kept_of stopped acted unless step looks_at seen_of seen inserted laid_out applied step_of called command_call
merges_or_not = (
  ((refl, (refl, (refl, tt))), ((refl, (refl, (refl, tt))), ((refl, (refl, (refl, tt))), ((refl, (refl, (refl, tt))), ((refl, (refl, (refl, tt))), ((refl, (refl, (refl, tt))), ((refl, (refl, (refl, tt))), ((refl, (refl, (refl, tt))), ((refl, (refl, (refl, tt))), ((refl, (refl, (refl, tt))), ((refl, (refl, (refl, tt))), ((refl, (refl, (refl, tt))), ((refl, (refl, (refl, tt))), ((refl, (refl, (refl, tt))), ((refl, (refl, (refl, tt))), ((refl, (refl, (refl, tt))), ((refl, (refl, (refl, tt))), ((refl, (refl, (refl, tt))), ((refl, (refl, (refl, tt))), tt))))))))))))))))))),
  ((refl, (refl, (refl, tt))), ((refl, (refl, (refl, tt))), ((refl, (refl, (refl, tt))), ((refl, (refl, (refl, tt))), ((refl, (refl, (refl, tt))), ((refl, (refl, (refl, tt))), ((refl, (refl, (refl, tt))), ((refl, (refl, (refl, tt))), ((refl, (refl, (refl, tt))), ((refl, (refl, (refl, tt))), ((refl, (refl, (refl, (refl, tt)))), ((refl, (refl, (refl, tt))), tt)))))))))))),
)

-- Q-4's cases, computed from the definitions; and with them that every kind of sense occurs.
-- Assumes nothing.
use mathlib.Core.Path.{◌≡◌, refl, ap, sym, ◌∙◌}
use mathlib.Core.Bool.{true}
use mathlib.Core.List.{List, [], ◌∷◌}
use Rattle.words.specs.Words.{be, bytes, over}
use Rattle.words.specs.Signed.{signed, wrapped, fits32, extended}
use Rattle.objects.specs.Object.{bytes_in}
use Rattle.objects.specs.Movement as M
use Rattle.image.specs.Image.{count, flags, protected, directory, size, entry, top_bit, low31, end_at, follows, ordered, right_length, sound, object_at, upto, objects}
use Rattle.changes.specs.Changes.{retitle, entry_of, enter, occur, occurs, cleared}
use Rattle.trailers.specs.Trailers.{protect, reflag}
use Rattle.image.specs.Example.{E}
use Rattle.sense.specs.Sense.{sense_bytes, parts_of, reports, told, empty_sense, attention_sense}
use Rattle.sense.specs.Descriptors.{information_descriptor, stream_descriptor, descriptors, descriptor_bytes, in_form}
use Rattle.record.specs.Record.{decode_of, encode_of, attention_known, empty_handed, placed, well_formed, well_record, with_sense}
use Rattle.codes.specs.Codes.{too_short, in_masks, masks_hold}
use Rattle.codes.specs.Fields.{fixed_of, sili_of, transfer_of, space_code_of, space_count_of, space_count16_of, long_of, changes_partition, object_of, partition_of, destination_of, partition16_of, identifier_of, pf_of, asks_descriptors, allocation_of}
use Rattle.answers.specs.Answers.{first}
use Rattle.objects.specs.Transfer.{run_of, blocks_of, fitting, put_from}
use Rattle.commands.specs.Act.{eom_at_end, hidden, read_variable, run_tells, reading, offered, goes_down, wrote, writing, space_tells, movement, spacing, target_of, destination16, locate_tells, locating, selecting, reply_of, act, events_of}
use Rattle.commands.specs.Tests.{bytes_asked, field_error, taken, reply_length, needed, tests}
use Rattle.commands.specs.Step.{status_of, kept_of, stopped, acted, unless, step}
use Rattle.commands.specs.Call.{Result, looks_at, seen_of, seen, inserted, laid_out, applied, step_of, called, command_call}
use Rattle.commands.specs.Parameters.{list_length_known, header_right, list_right}
use Rattle.forms.specs.Produced.{by_command, kept, Kind, kinds, is_of, Occurs, AllOccur}
use Rattle.edges.specs.Cases.{bare64, full}
use Rattle.edges.specs.Traps.{Trap, Traps, guarded}
use Rattle.edges.specs.Descriptors.{empty_turned, marked_turned, unfit_turned, ones_turned, attention_turned, others_turned, leaving, asked, EachLeft}

pub empty_turned_lem : Traps empty_turned
unfolding Traps empty_turned be bytes over extended sense_bytes parts_of reports told empty_sense attention_sense information_descriptor stream_descriptor descriptors descriptor_bytes in_form
    decode_of encode_of attention_known empty_handed placed well_formed well_record with_sense too_short in_masks masks_hold transfer_of long_of asks_descriptors allocation_of
    first fitting put_from offered goes_down reply_of act events_of field_error taken reply_length needed tests status_of kept_of stopped acted unless step looks_at seen inserted laid_out occurs applied step_of called command_call
empty_turned_lem = (refl, (refl, (refl, (refl, (refl, (refl, (refl, (refl, (refl, (refl, (refl, (refl, (refl, (refl, (refl, (refl, (refl, tt)))))))))))))))))

pub marked_turned_lem : Traps marked_turned
unfolding Traps marked_turned be bytes over extended sense_bytes parts_of reports told empty_sense attention_sense information_descriptor stream_descriptor descriptors descriptor_bytes in_form
    decode_of encode_of attention_known empty_handed placed well_formed well_record with_sense too_short in_masks masks_hold transfer_of long_of asks_descriptors allocation_of
    first fitting put_from offered goes_down reply_of act events_of field_error taken reply_length needed tests status_of kept_of stopped acted unless step looks_at seen inserted laid_out occurs applied step_of called command_call
marked_turned_lem = (refl, (refl, (refl, (refl, (refl, (refl, (refl, (refl, (refl, (refl, (refl, (refl, (refl, (refl, (refl, (refl, (refl, tt)))))))))))))))))

pub unfit_turned_lem : Traps unfit_turned
unfolding Traps unfit_turned be bytes over extended sense_bytes parts_of reports told empty_sense attention_sense information_descriptor stream_descriptor descriptors descriptor_bytes in_form
    decode_of encode_of attention_known empty_handed placed well_formed well_record with_sense too_short in_masks masks_hold transfer_of long_of asks_descriptors allocation_of
    first fitting put_from offered goes_down reply_of act events_of field_error taken reply_length needed tests status_of kept_of stopped acted unless step looks_at seen inserted laid_out occurs applied step_of called command_call
unfit_turned_lem = (refl, (refl, (refl, (refl, (refl, (refl, (refl, (refl, (refl, (refl, (refl, (refl, (refl, (refl, (refl, (refl, (refl, tt)))))))))))))))))

pub ones_turned_lem : Traps ones_turned
unfolding Traps ones_turned be bytes over extended sense_bytes parts_of reports told empty_sense attention_sense information_descriptor stream_descriptor descriptors descriptor_bytes in_form
    decode_of encode_of attention_known empty_handed placed well_formed well_record with_sense too_short in_masks masks_hold transfer_of long_of asks_descriptors allocation_of
    first fitting put_from offered goes_down reply_of act events_of field_error taken reply_length needed tests status_of kept_of stopped acted unless step looks_at seen inserted laid_out occurs applied step_of called command_call
ones_turned_lem = (refl, (refl, (refl, (refl, (refl, (refl, (refl, (refl, (refl, (refl, (refl, (refl, (refl, (refl, (refl, (refl, (refl, tt)))))))))))))))))

pub attention_turned_lem : Traps attention_turned
unfolding Traps attention_turned be bytes over extended sense_bytes parts_of reports told empty_sense attention_sense information_descriptor stream_descriptor descriptors descriptor_bytes in_form
    decode_of encode_of attention_known empty_handed placed well_formed well_record with_sense too_short in_masks masks_hold transfer_of long_of asks_descriptors allocation_of
    first fitting put_from offered goes_down reply_of act events_of field_error taken reply_length needed tests status_of kept_of stopped acted unless step looks_at seen inserted laid_out occurs applied step_of called command_call
attention_turned_lem = (refl, (refl, (refl, (refl, (refl, (refl, (refl, (refl, (refl, (refl, (refl, (refl, (refl, (refl, (refl, (refl, (refl, (refl, (refl, (refl, (refl, (refl, (refl, (refl, (refl, (refl, (refl, (refl, (refl, (refl, (refl, (refl, (refl, (refl, tt))))))))))))))))))))))))))))))))))

pub others_turned_lem : Traps others_turned
unfolding Traps others_turned be bytes over extended sense_bytes parts_of reports told empty_sense attention_sense information_descriptor stream_descriptor descriptors descriptor_bytes in_form
    decode_of encode_of attention_known empty_handed placed well_formed well_record with_sense too_short in_masks masks_hold transfer_of long_of asks_descriptors allocation_of
    first fitting put_from offered goes_down reply_of act events_of field_error taken reply_length needed tests status_of kept_of stopped acted unless step looks_at seen inserted laid_out occurs applied step_of called command_call
others_turned_lem = (refl, (refl, (refl, (refl, (refl, (refl, (refl, (refl, (refl, (refl, (refl, (refl, (refl, (refl, (refl, (refl, (refl, (refl, (refl, (refl, (refl, (refl, (refl, (refl, tt))))))))))))))))))))))))

pub kinds_left : Traps leaving
unfolding Traps leaving bare64 full guarded E be bytes over signed wrapped fits32 extended bytes_in M.walk M.before M.ahead M.astern M.space M.residue M.to_end_of_data M.to_object M.to_file M.locate
    count flags protected directory size entry top_bit low31 end_at follows ordered right_length sound object_at upto objects retitle entry_of enter occur occurs cleared protect reflag
    sense_bytes parts_of reports told empty_sense attention_sense information_descriptor stream_descriptor descriptors descriptor_bytes in_form
    decode_of encode_of attention_known empty_handed placed well_formed well_record with_sense too_short in_masks masks_hold
    fixed_of sili_of transfer_of space_code_of space_count_of space_count16_of long_of changes_partition object_of partition_of destination_of partition16_of identifier_of pf_of asks_descriptors allocation_of
    first run_of blocks_of fitting put_from eom_at_end hidden read_variable run_tells reading offered goes_down wrote writing space_tells movement spacing target_of destination16 locate_tells locating selecting reply_of act events_of
    bytes_asked field_error taken reply_length needed tests status_of kept_of stopped acted unless step looks_at seen_of seen inserted laid_out applied step_of called command_call list_length_known header_right list_right
kinds_left = (refl, (refl, (refl, (refl, (refl, (refl, (refl, (refl, (refl, (refl, (refl, (refl, (refl, (refl, (refl, (refl, (refl, (refl, (refl, (refl, tt))))))))))))))))))))

pub kinds_asked : Traps asked
unfolding Traps asked bare64 full guarded E be bytes over signed wrapped fits32 extended bytes_in M.walk M.before M.ahead M.astern M.space M.residue M.to_end_of_data M.to_object M.to_file M.locate
    count flags protected directory size entry top_bit low31 end_at follows ordered right_length sound object_at upto objects retitle entry_of enter occur occurs cleared protect reflag
    sense_bytes parts_of reports told empty_sense attention_sense information_descriptor stream_descriptor descriptors descriptor_bytes in_form
    decode_of encode_of attention_known empty_handed placed well_formed well_record with_sense too_short in_masks masks_hold
    fixed_of sili_of transfer_of space_code_of space_count_of space_count16_of long_of changes_partition object_of partition_of destination_of partition16_of identifier_of pf_of asks_descriptors allocation_of
    first run_of blocks_of fitting put_from eom_at_end hidden read_variable run_tells reading offered goes_down wrote writing space_tells movement spacing target_of destination16 locate_tells locating selecting reply_of act events_of
    bytes_asked field_error taken reply_length needed tests status_of kept_of stopped acted unless step looks_at seen_of seen inserted laid_out applied step_of called command_call list_length_known header_right list_right
kinds_asked = (refl, (refl, (refl, (refl, (refl, (refl, (refl, (refl, (refl, (refl, (refl, (refl, (refl, (refl, (refl, (refl, (refl, (refl, (refl, (refl, (refl, (refl, (refl, (refl, (refl, (refl, (refl, (refl, (refl, (refl, (refl, (refl, (refl, (refl, (refl, (refl, (refl, (refl, (refl, (refl, tt))))))))))))))))))))))))))))))))))))))))

-- ---- every kind occurs: some call leaves it

each_left : EachLeft kinds leaving
unfolding EachLeft kinds leaving bytes be decode_of parts_of
each_left = (refl, refl, (refl, refl, (refl, refl, (refl, refl, (refl, refl, (refl, refl, (refl, refl, (refl, refl, (refl, refl, (refl, refl, (refl, refl, (refl, refl, (refl, refl, (refl, refl, (refl, refl, (refl, refl, (refl, refl, (refl, refl, (refl, refl, (refl, refl, tt))))))))))))))))))))

occurs_by : (k : Kind) (t : Trap) → command_call t.rec t.lends ≡ t.leaves → t.leaves.answer.refusal ≡ 0 → is_of k (parts_of (decode_of t.leaves.rec).sense) ≡ true → Occurs k
occurs_by k t e z h = record {
  bytes = (decode_of t.leaves.rec).sense;
  produced = kept t.leaves.rec (by_command t.rec t.lends (ap (λ (r : Result). r.answer.refusal) e ∙ z) (sym (ap (λ (r : Result). r.rec) e))) refl;
  is = h;
}

all_by : (ks : List Kind) (ts : List Trap) → Traps ts → EachLeft ks ts → AllOccur ks
unfolding Traps EachLeft AllOccur
all_by [] [] c l = tt
all_by [] (t ∷ ts) c l = absurd l
all_by (k ∷ ks) [] c l = absurd l
all_by (k ∷ ks) (t ∷ ts) c l = (occurs_by k t c.0 l.0 l.1, all_by ks ts c.1 l.2)

pub all_occur : AllOccur kinds
all_occur = all_by kinds leaving kinds_left each_left

-- The tests of a command in 01's order ("Command order"), after 1 and 4: attention; operation code; fields; (MODE SELECT's list length); nothing loaded;
-- LOCATE's partition number or protection; 2 or 3.
-- Assumes nothing: these are definitions.
use Rattle.std.specs.Prelude.{ℕ, ◌*◌, min, Bool, false, cond, not, ◌&&◌, ◌||◌, List, [], ◌∷◌, eqb, leb, ltb, length}
use Rattle.objects.specs.Object.{largest_block}
use Rattle.answers.specs.Answers.{sent_short, received_short}
use Rattle.sense.specs.Sense.{not_ready, illegal_request, data_protect, unqualified, list_length_error, invalid_operation_code, invalid_field, write_protected, medium_not_present}
use Rattle.record.specs.declared.drive.Drive.{Drive}
use Rattle.record.specs.Record.{no_attention}
use Rattle.codes.specs.declared.operation.Operation.{Operation}
use Rattle.codes.specs.declared.operation.Operation.TheVariants.{RequestSense, ReadBlockLimits, Read, Write, Space, ModeSelect, ModeSense, ReadPosition, Space16, Locate16}
use Rattle.codes.specs.Codes.{masks_hold}
use Rattle.codes.specs.Fields.{fixed_of, sili_of, transfer_of, space_code_of, changes_partition, destination_of, form_of, dbd_of, page_of, pf_of, allocation_of}
use Rattle.commands.specs.Stop.{Stop, refuse, attend, fault}
use Rattle.commands.specs.Kinds.{among, passes_attention, is_served, needs_cartridge, locates, writes}
use Rattle.commands.specs.Parameters.{no_page, all_pages, limits_length, header_length, whole_length, short_length, long_length, list_length_known}
use Rattle.commands.specs.Act.{Seen, over_blocks, over_filemarks, to_end, named_partition, by_object, by_file, by_end, short_form, long_form, sense_reply}

-- "length × block length (FIXED) or length bytes"
unfoldable pub bytes_asked : Drive → List ℕ → ℕ
bytes_asked d cmd = cond (fixed_of cmd) (transfer_of cmd * d.block_length) (transfer_of cmd)

-- the field errors beyond the masks, by command
unfoldable pub field_error : Operation → Drive → List ℕ → Bool
field_error o d cmd =
    -- "Both, or FIXED with block length 0"
    cond (among (Read ∷ []) o) (fixed_of cmd && (sili_of cmd || eqb d.block_length 0))
    -- "FIXED .. as READ; variable length above 65,536", since Q-7 1,048,576
    (cond (among (Write ∷ []) o) (cond (fixed_of cmd) (eqb d.block_length 0) (ltb largest_block (transfer_of cmd)))
    -- "Other codes than 0, 1, 3"
    (cond (among (Space ∷ Space16 ∷ []) o) (not (eqb (space_code_of cmd) over_blocks || eqb (space_code_of cmd) over_filemarks || eqb (space_code_of cmd) to_end))
    -- "PF must be 1"
    (cond (among (ModeSelect ∷ []) o) (not (pf_of cmd))
    -- "page 00h or 3Fh, else field error"
    (cond (among (ModeSense ∷ []) o) (not (eqb (page_of cmd) no_page || eqb (page_of cmd) all_pages))
    -- "other forms field error"
    (cond (among (ReadPosition ∷ []) o) (not (eqb (form_of cmd) short_form || eqb (form_of cmd) long_form))
    -- Q-1: "destinations 2 and 4 to 7 are field errors"
    (cond (among (Locate16 ∷ []) o) (not (eqb (destination_of cmd) by_object || eqb (destination_of cmd) by_file || eqb (destination_of cmd) by_end))
    false))))))

-- how many bytes the command takes from the data sent
unfoldable pub taken : Operation → Drive → List ℕ → ℕ
taken o d cmd = cond (among (Write ∷ []) o) (bytes_asked d cmd) (cond (among (ModeSelect ∷ []) o) (allocation_of cmd) 0)

-- how long its reply is: the same whatever it sees
unfoldable pub reply_length : Operation → Drive → List ℕ → ℕ
reply_length o d cmd =
    cond (among (RequestSense ∷ []) o) (min (allocation_of cmd) (length (sense_reply d cmd)))
    (cond (among (ReadBlockLimits ∷ []) o) limits_length
    (cond (among (ModeSense ∷ []) o) (min (allocation_of cmd) (cond (dbd_of cmd) header_length whole_length))
    (cond (among (ReadPosition ∷ []) o) (cond (eqb (form_of cmd) short_form) short_length long_length)
    0)))

-- how many bytes of the receiving buffer it may need
unfoldable pub needed : Operation → Drive → List ℕ → ℕ
needed o d cmd = cond (among (Read ∷ []) o) (bytes_asked d cmd) (reply_length o d cmd)

-- "fields (5/24/00)"
abbrev pub field_fault : Stop
field_fault = fault illegal_request invalid_field unqualified

-- `room` is the length of the receiving buffer
unfoldable pub tests : Operation → Drive → List ℕ → Seen → List ℕ → ℕ → List (Bool × Stop)
tests o d cmd v sent room =
    (not (eqb d.attention no_attention) && not (passes_attention o), attend)
    ∷ (not (is_served o), fault illegal_request invalid_operation_code unqualified)
    ∷ (not (masks_hold cmd) || field_error o d cmd, field_fault)
    -- "else 5/1A/00, tested just after the fields"
    ∷ (among (ModeSelect ∷ []) o && not (list_length_known (allocation_of cmd)), fault illegal_request list_length_error unqualified)
    ∷ (needs_cartridge o && eqb d.loaded 0, fault not_ready medium_not_present unqualified)
    ∷ (locates o && changes_partition cmd && leb d.partitions (named_partition o cmd), field_fault)
    ∷ (writes o && v.guarded, fault data_protect write_protected unqualified)
    ∷ (ltb (length sent) (taken o d cmd), refuse sent_short)
    ∷ (ltb room (needed o d cmd), refuse received_short)
    ∷ []

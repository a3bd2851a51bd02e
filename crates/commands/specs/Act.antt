-- What each command does once every test has passed (01, "What each command does"): from its fields, the bytes sent, the drive, and what it may
-- see of the partition; never from the raw image.
-- Assumes nothing: these are definitions.
use Rattle.std.specs.Prelude.{ℕ, suc, ◌+◌, Bool, true, false, cond, not, ◌&&◌, ◌||◌, List, [], ◌∷◌, eqb, ltb, ℤ, pos, negsuc, length, take, drop}
use Rattle.std.proofs.Math.Option.{Option, none, some}
use Rattle.std.proofs.Math.IntN.{sub_ℕ}
use Rattle.std.proofs.Math.ListN.{get_elem?}
use Rattle.words.specs.Words.{limited}
use Rattle.objects.specs.Object.{Object, filemark, block, bytes_in, filemarks_in}
use Rattle.objects.specs.Movement as M
use Rattle.objects.specs.Events.{Event, cut}
use Rattle.objects.specs.Room.{room_of, zone_in}
use Rattle.sense.specs.declared.Sense.{Sense}
use Rattle.sense.specs.Sense.{no_additional, unqualified, filemark_detected, end_of_partition, beginning_of_partition, end_of_data_detected, invalid_list_field}
use Rattle.sense.specs.Sense.{no_sense, illegal_request, blank_check, volume_overflow, told, plainly, attention_sense}
use Rattle.sense.specs.Descriptors.{in_form}
use Rattle.record.specs.declared.drive.Drive.{Drive}
use Rattle.record.specs.Record.{no_attention, drive, holding, loaded_anew, unloaded}
use Rattle.codes.specs.declared.operation.Operation.{Operation}
use Rattle.codes.specs.declared.operation.Operation.TheVariants.{TestUnitReady, Rewind, RequestSense, ReadBlockLimits, Read, Write, WriteFilemarks, Space, ModeSelect, Erase, ModeSense, LoadUnload, Locate, ReadPosition, Space16, Locate16, NotServed}
use Rattle.codes.specs.Fields.{fixed_of, sili_of, transfer_of, space_code_of, space_count_of, space_count16_of, changes_partition, object_of, partition_of, destination_of, partition16_of, identifier_of, load_of, form_of, dbd_of, asks_descriptors, allocation_of}
use Rattle.commands.specs.Kinds.{among, erases}
use Rattle.objects.specs.Transfer.{Ended, whole, odd_length, at_filemark, at_end, Run, run_of, blocks_of, marks_of, fitting, put_from}
use Rattle.commands.specs.Parameters.{block_limits, mode_data, whole_length, list_right, new_length, short_position, long_position}

-- ---- what a command may see of the partition that it looks at

pub record Seen : Type 0 where
  pub size : ℕ
  pub guarded : Bool
  pub objects : List Object

-- the early-warning zone, at a number up to N
abbrev pub zone_at : Seen → ℕ → Bool
zone_at v n = zone_in v.size (room_of v.size n (bytes_in (take n v.objects)))

-- the EOM bit at end of data. Q-2: "Set it exactly when position N of the partition is in the zone"; 01 had "EOM 0 (H)" for READ and SPACE, "EOM 0"
-- for LOCATE. The partition is the one that the command looks at: LOCATE's target.
unfoldable pub eom_at_end : Seen → Bool
eom_at_end v = zone_at v (length v.objects)

-- ---- what it leaves: the drive but for its sense, what it tells (nothing: GOOD), the data for the receiving buffer, the bytes carried, and the
-- objects that it reports as crossed, which is for SPACE alone (Q-10: "Every other call, refusals included, answers 0 there")

pub record Deed : Type 0 where
  pub drive : Drive
  pub tells : Option Sense
  pub received : List ℕ
  pub carried : ℕ
  pub crossed : ℕ

abbrev pub good : Drive → Deed
good d = record { drive = d; tells = none; received = []; carried = 0; crossed = 0 }

abbrev pub checked : Drive → Sense → Deed
checked d s = record { drive = d; tells = some s; received = []; carried = 0; crossed = 0 }

-- with data for the receiving buffer
abbrev pub giving : List ℕ → Deed → Deed
giving b e = record { drive = e.drive; tells = e.tells; received = b; carried = length b; crossed = e.crossed }

-- with bytes carried from the data sent
abbrev pub carrying : ℕ → Deed → Deed
carrying n e = record { drive = e.drive; tells = e.tells; received = e.received; carried = n; crossed = e.crossed }

-- the drive at position n
abbrev pub at : Drive → ℕ → Drive
at d n = holding d d.loaded d.partitions d.current n

abbrev pub at_partition : Drive → ℕ → ℕ → Drive
at_partition d k n = holding d d.loaded d.partitions k n

abbrev pub with_length : Drive → ℕ → Drive
with_length d n = drive d.loaded d.partitions d.current d.attention d.position n d.sense

abbrev pub unattended : Drive → Drive
unattended d = drive d.loaded d.partitions d.current no_attention d.position d.block_length d.sense

-- ---- the senses of a command that reports its residue

-- a filemark met: 0/00/01, FILEMARK
abbrev pub filemark_met : ℤ → Sense
filemark_met residue = told true true false false no_sense no_additional filemark_detected residue

-- end of data: 8/00/05, by a command that counts or not
abbrev pub end_told : Bool → Seen → ℤ → Sense
end_told counts v residue = told counts false (eom_at_end v) false blank_check no_additional end_of_data_detected residue

abbrev pub end_met : Seen → ℤ → Sense
end_met v residue = end_told true v residue

-- a block of another length: ILI, 0/00/00
abbrev pub odd_met : ℤ → Sense
odd_met residue = told true false false true no_sense no_additional unqualified residue

-- the beginning met: 0/00/04 with EOM
abbrev pub beginning_met : ℤ → Sense
beginning_met residue = told true false true false no_sense no_additional beginning_of_partition residue

-- ---- READ

-- "SILI hides an unequal length, except overlength with a nonzero block length."
unfoldable pub hidden : Drive → List ℕ → ℕ → Bool
hidden d cmd len = sili_of cmd && not (ltb (transfer_of cmd) len && not (eqb d.block_length 0))

-- a block bs met by a variable READ: "carries the smaller of request and block; unequal gives ILI, information request − its length, position after"
abbrev pub read_block : Drive → List ℕ → List ℕ → Deed
read_block d cmd bs =
    let n = transfer_of cmd in
    giving (take n bs)
    (cond (eqb (length bs) n || hidden d cmd (length bs)) (good (at d (suc d.position))) (checked (at d (suc d.position)) (odd_met (sub_ℕ n (length bs)))))

-- what lies at the position: a block, a filemark (position after), end of data (position there)
unfoldable pub read_variable : Drive → List ℕ → Seen → Option Object → Deed
read_variable d cmd v (some (block bs)) = read_block d cmd bs
read_variable d cmd v (some filemark) = checked (at d (suc d.position)) (filemark_met (pos (transfer_of cmd)))
read_variable d cmd v none = checked d (end_met v (pos (transfer_of cmd)))

-- what a run of whole blocks tells: the residue is the blocks not read
unfoldable pub run_tells : Seen → Ended → ℤ → Option Sense
run_tells v whole z = none
run_tells v odd_length z = some (odd_met z)
run_tells v at_filemark z = some (filemark_met z)
run_tells v at_end z = some (end_met v z)

abbrev pub read_run : Drive → Seen → ℕ → Run → Deed
read_run d v n r = record { drive = at d (d.position + r.crossed); tells = run_tells v r.why (sub_ℕ n r.blocks); received = r.bytes; carried = length r.bytes; crossed = 0 }

-- "Length 0: GOOD, no movement."
unfoldable pub reading : Drive → List ℕ → Seen → Deed
reading d cmd v =
    cond (eqb (transfer_of cmd) 0) (good d)
    (cond (fixed_of cmd) (read_run d v (transfer_of cmd) (run_of d.block_length (transfer_of cmd) (drop d.position v.objects)))
    (read_variable d cmd v (get_elem? v.objects d.position)))

-- ---- WRITE and WRITE FILEMARKS

-- what is offered to the tape: by WRITE one block, or blocks of the block length; by WRITE FILEMARKS filemarks; by all else nothing
unfoldable pub offered : Operation → Drive → List ℕ → List ℕ → List Object
offered o d cmd sent =
    let n = transfer_of cmd in
    cond (among (Write ∷ []) o) (cond (fixed_of cmd) (blocks_of d.block_length n sent) (cond (eqb n 0) [] (block (take n sent) ∷ [])))
    (cond (among (WriteFilemarks ∷ []) o) (marks_of n) [])

-- what of it goes down, the first at the position
unfoldable pub goes_down : Operation → Drive → List ℕ → List ℕ → Seen → List Object
goes_down o d cmd sent v = fitting v.size d.position (bytes_in (take d.position v.objects)) (offered o d cmd sent)

-- "All put and the new position in the zone: 0/00/02, EOM, information 0 (H)."
abbrev pub warned : Sense
warned = told true false true false no_sense no_additional end_of_partition (pos 0)

-- "Not all put: D/00/02, EOM, residue not put (variable: the request)."
abbrev pub overflowed : ℤ → Sense
overflowed residue = told true false true false volume_overflow no_additional end_of_partition residue

-- n were asked for, of which the objects os went down; `short` is the residue where not all did
unfoldable pub wrote : Drive → Seen → ℕ → List Object → ℤ → Deed
wrote d v n os short =
    let there = d.position + length os in
    let e = at d there in
    cond (eqb (length os) n)
    (cond (zone_in v.size (room_of v.size there (bytes_in (take d.position v.objects) + bytes_in os))) (checked e warned) (good e))
    (checked e (overflowed short))

-- "Either with zero: GOOD, nothing on the cartridge changes." A variable WRITE asks for one block, and what is not put of it is the request.
unfoldable pub writing : Drive → List ℕ → List ℕ → Seen → Deed
writing d cmd sent v =
    let n = transfer_of cmd in
    let os = goes_down Write d cmd sent v in
    cond (eqb n 0) (good d)
    (carrying (bytes_in os)
    (cond (fixed_of cmd) (wrote d v n os (sub_ℕ n (length os))) (wrote d v 1 os (sub_ℕ n (bytes_in os)))))

unfoldable pub marking : Drive → List ℕ → List ℕ → Seen → Deed
marking d cmd sent v =
    let n = transfer_of cmd in
    let os = goes_down WriteFilemarks d cmd sent v in
    cond (eqb n 0) (good d) (wrote d v n os (sub_ℕ n (length os)))

-- ---- SPACE

-- how a movement ended: a filemark crossed that was not asked for; end of data going on, the beginning going back
unfoldable pub space_tells : Seen → ℤ → M.Move → Option Sense
space_tells v k m = by m.why k
  where
    by : M.Why → ℤ → Option Sense
    by M.done k = none
    by M.marked k = some (filemark_met (M.residue k m))
    by M.edge (pos n) = some (end_met v (M.residue (pos n) m))
    by M.edge (negsuc n) = some (beginning_met (M.residue (negsuc n) m))

-- Q-10: "SPACE shall also report how many objects it crossed, filemarks included"; "Tie this number to the definition of movement"
abbrev pub moved : Drive → Seen → ℤ → M.Move → Deed
moved d v k m = record { drive = at d m.to; tells = space_tells v k m; received = []; carried = 0; crossed = m.distance }

-- code 0 blocks, code 1 filemarks, code 3 "count ignored, to end of data, GOOD"
abbrev pub over_blocks : ℕ
over_blocks = 0

abbrev pub over_filemarks : ℕ
over_filemarks = 1

abbrev pub to_end : ℕ
to_end = 3

unfoldable pub movement : ℕ → ℤ → ℕ → List Object → M.Move
movement code k p xs = cond (eqb code to_end) (M.to_end_of_data p xs) (M.space (cond (eqb code over_blocks) M.blocks M.filemarks) k p xs)

-- by the count k; Q-1: SPACE (16) has "the codes served today", and differs in how it spells its count alone
unfoldable pub spacing : Drive → ℕ → ℤ → Seen → Deed
spacing d code k v = moved d v k (movement code k d.position v.objects)

-- ---- LOCATE

-- the partition: "byte 8 partition if bit 1 (CP), else ignored"; of LOCATE (16) in byte 3 (Q-1: "partition as in LOCATE")
abbrev pub named_partition : Operation → List ℕ → ℕ
named_partition o cmd = cond (among (Locate16 ∷ []) o) (partition16_of cmd) (partition_of cmd)

unfoldable pub target_of : Operation → Drive → List ℕ → ℕ
target_of o d cmd = cond (changes_partition cmd) (named_partition o cmd) d.current

-- Q-1: destinations 0 object, 1 file, 3 end of data
abbrev pub by_object : ℕ
by_object = 0

abbrev pub by_file : ℕ
by_file = 1

abbrev pub by_end : ℕ
by_end = 3

unfoldable pub destination16 : List ℕ → M.Destination
destination16 cmd = cond (eqb (destination_of cmd) by_file) (M.file (identifier_of cmd)) (cond (eqb (destination_of cmd) by_end) M.end_of_data (M.object (identifier_of cmd)))

-- "Above N: 8/00/05"; Q-1: "an identifier past what exists is 8/00/05 at end of data"
unfoldable pub locate_tells : Seen → M.Why → Option Sense
locate_tells v M.done = none
locate_tells v M.marked = none
locate_tells v M.edge = some (end_told false v (pos 0))

-- ".. at N of the target (H)": v is what is seen of the target, on which it moves from the position, or from the beginning of another partition
-- to the destination t of partition k
unfoldable pub locating : Drive → ℕ → M.Destination → Seen → Deed
locating d k t v =
    let m = M.locate t (cond (eqb k d.current) d.position 0) v.objects in
    record { drive = at_partition d k m.to; tells = locate_tells v m.why; received = []; carried = 0; crossed = 0 }

-- ---- MODE SELECT

-- "else 5/26/00, block length kept, 0 carried"
unfoldable pub selecting : Drive → List ℕ → List ℕ → Deed
selecting d cmd sent =
    let n = allocation_of cmd in
    cond (eqb n 0) (good d)
    (cond (list_right n sent) (carrying n (good (cond (eqb n whole_length) (with_length d (new_length sent)) d)))
    (checked d (plainly illegal_request invalid_list_field unqualified)))

-- ---- the commands that answer with data, cut at an allocation where they have one

-- the forms of READ POSITION
abbrev pub short_form : ℕ
short_form = 0x00

abbrev pub long_form : ℕ
long_form = 0x06

-- "pending attention if any, else kept sense"
abbrev pub sense_asked : Drive → List ℕ
sense_asked d = cond (eqb d.attention no_attention) d.sense (attention_sense d.attention)

-- Q-4: "Newer hosts set bit 0 of byte 1 in REQUEST SENSE. Serve it with response code 72h", in place of 01's eighteen bytes
abbrev pub sense_reply : Drive → List ℕ → List ℕ
sense_reply d cmd = in_form (asks_descriptors cmd) (sense_asked d)

unfoldable pub reply_of : Operation → Drive → List ℕ → Seen → List ℕ
reply_of o d cmd v =
    let z = zone_at v d.position in
    cond (among (RequestSense ∷ []) o) (limited (allocation_of cmd) (sense_reply d cmd))
    (cond (among (ReadBlockLimits ∷ []) o) block_limits
    (cond (among (ModeSense ∷ []) o) (limited (allocation_of cmd) (mode_data (dbd_of cmd) v.guarded d.block_length))
    (cond (among (ReadPosition ∷ []) o)
    (cond (eqb (form_of cmd) short_form) (short_position d.current d.position z) (long_position d.current d.position z (filemarks_in (take d.position v.objects))))
    [])))

-- ---- each command

unfoldable pub act : Operation → Drive → List ℕ → List ℕ → Seen → Deed
act TestUnitReady d cmd sent v = good d
-- position 0
act Rewind d cmd sent v = good (at d 0)
-- "pending attention if any, else kept sense, cut at byte 4. GOOD clears both."
act RequestSense d cmd sent v = giving (reply_of RequestSense d cmd v) (good (unattended d))
act ReadBlockLimits d cmd sent v = giving (reply_of ReadBlockLimits d cmd v) (good d)
act Read d cmd sent v = reading d cmd v
act Write d cmd sent v = writing d cmd sent v
act WriteFilemarks d cmd sent v = marking d cmd sent v
act Space d cmd sent v = spacing d (space_code_of cmd) (space_count_of cmd) v
act ModeSelect d cmd sent v = selecting d cmd sent
-- "N becomes the position, D follows; .. Position stays."
act Erase d cmd sent v = good d
act ModeSense d cmd sent v = giving (reply_of ModeSense d cmd v) (good d)
act LoadUnload d cmd sent v = good (cond (load_of cmd) (loaded_anew d) (unloaded d))
act Locate d cmd sent v = locating d (target_of Locate d cmd) (M.object (object_of cmd)) v
act ReadPosition d cmd sent v = giving (reply_of ReadPosition d cmd v) (good d)
act Space16 d cmd sent v = spacing d (space_code_of cmd) (space_count16_of cmd) v
act Locate16 d cmd sent v = locating d (target_of Locate16 d cmd) (destination16 cmd) v
act NotServed d cmd sent v = good d

-- ---- the events that it causes on the partition: ERASE cuts at the position; all else puts what goes down

unfoldable pub events_of : Operation → Drive → List ℕ → List ℕ → Seen → List Event
events_of o d cmd sent v = cond (erases o) (cut d.position ∷ []) (put_from d.position (goes_down o d cmd sent v))

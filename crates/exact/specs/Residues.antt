-- What READ, WRITE, WRITE FILEMARKS and SPACE (of either length) report, by 01's bullets: the residue, and where they leave the position, in terms of the objects crossed
-- or put. That the kept sense and the record after a call say these: proofs/Residues.antt.
-- Assumes nothing: these are definitions.
use Rattle.std.specs.Prelude.{ℕ, ◌+◌, Bool, cond, List, [], ◌∷◌, eqb, ℤ, pos, length, drop}
use Rattle.std.proofs.Math.Option.{Option, none, some}
use Rattle.std.proofs.Math.IntN.{sub_ℕ}
use Rattle.std.proofs.Math.ListN.{get_elem?}
use Rattle.objects.specs.Object.{Object, filemark, block}
use Rattle.objects.specs.Movement as M
use Rattle.objects.specs.Transfer.{Run, run_of}
use Rattle.record.specs.declared.drive.Drive.{Drive}
use Rattle.codes.specs.declared.operation.Operation.{Operation}
use Rattle.codes.specs.declared.operation.Operation.TheVariants.{Read, Write, WriteFilemarks, Space, Space16}
use Rattle.codes.specs.Fields.{fixed_of, transfer_of, space_code_of, space_count_of, space_count16_of}
use Rattle.commands.specs.Kinds.{among}
use Rattle.commands.specs.Act.{Seen, goes_down, movement}

-- "VALID is set for READ, WRITE, WRITE FILEMARKS and SPACE", by SPACE (16) too
abbrev pub counts : Operation → Bool
counts o = among (Read ∷ Write ∷ WriteFilemarks ∷ Space ∷ Space16 ∷ []) o

-- ---- READ

-- a run of whole blocks from the position on, by FIXED
abbrev pub fixed_run : Drive → List ℕ → Seen → Run
fixed_run d cmd v = run_of d.block_length (transfer_of cmd) (drop d.position v.objects)

-- variable: "unequal gives ILI, information request − its length"; at a filemark or end of data "the request"
abbrev pub left_of_one : ℕ → Option Object → ℤ
left_of_one n (some (block bs)) = sub_ℕ n (length bs)
left_of_one n (some filemark) = pos n
left_of_one n none = pos n

-- "Residue: FIXED, blocks not read; variable, the request."
abbrev pub read_residue : Drive → List ℕ → Seen → ℤ
read_residue d cmd v = cond (fixed_of cmd) (sub_ℕ (transfer_of cmd) (fixed_run d cmd v).blocks) (left_of_one (transfer_of cmd) (get_elem? v.objects d.position))

-- how many objects it crosses: those of the run; the one at the position, if there is one
abbrev pub crosses_one : Option Object → ℕ
crosses_one (some o) = 1
crosses_one none = 0

abbrev pub read_crosses : Drive → List ℕ → Seen → ℕ
read_crosses d cmd v = cond (eqb (transfer_of cmd) 0) 0 (cond (fixed_of cmd) (fixed_run d cmd v).crossed (crosses_one (get_elem? v.objects d.position)))

-- ---- WRITE and WRITE FILEMARKS: "residue not put (variable: the request)"; "All put ..: information 0"

abbrev pub write_residue : Drive → List ℕ → List ℕ → Seen → ℤ
write_residue d cmd sent v =
    let put = length (goes_down Write d cmd sent v) in
    cond (fixed_of cmd) (sub_ℕ (transfer_of cmd) put) (cond (eqb put 1) (pos 0) (pos (transfer_of cmd)))

abbrev pub marks_residue : Drive → List ℕ → List ℕ → Seen → ℤ
marks_residue d cmd sent v = sub_ℕ (transfer_of cmd) (length (goes_down WriteFilemarks d cmd sent v))

-- ---- SPACE: "Residue = count − signed movement of what is counted"

-- its count: of 24 bits, by SPACE (16) of 64
abbrev pub count_of : Operation → List ℕ → ℤ
count_of o cmd = cond (among (Space16 ∷ []) o) (space_count16_of cmd) (space_count_of cmd)

-- by the code and the count k
abbrev pub space_residue : Drive → ℕ → ℤ → Seen → ℤ
space_residue d code k v = M.residue k (movement code k d.position v.objects)

-- ---- each

unfoldable pub residue_of : Operation → Drive → List ℕ → List ℕ → Seen → ℤ
residue_of o d cmd sent v =
    cond (among (Read ∷ []) o) (read_residue d cmd v)
    (cond (among (Write ∷ []) o) (write_residue d cmd sent v)
    (cond (among (WriteFilemarks ∷ []) o) (marks_residue d cmd sent v) (space_residue d (space_code_of cmd) (count_of o cmd) v)))

-- where it leaves the position: behind the objects crossed, or put; where the movement ends
unfoldable pub place_after : Operation → Drive → List ℕ → List ℕ → Seen → ℕ
place_after o d cmd sent v =
    cond (among (Read ∷ []) o) (d.position + read_crosses d cmd v)
    (cond (among (Space ∷ Space16 ∷ []) o) (movement (space_code_of cmd) (count_of o cmd) d.position v.objects).to (d.position + length (goes_down o d cmd sent v)))

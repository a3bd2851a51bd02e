-- Where two SPACEs may not be merged: cases, computed, against each premise of Q-12's law; so none of these premises can be left out.
-- Assumes nothing.
use Prim.Native.Nat.{ℕ}
use native.Mathlib.Omega.{arith}
use mathlib.Core.Path.{◌≡◌, refl, ap}
use mathlib.Core.List.{List, [], ◌∷◌, ◌++◌}
use lib.IntN.{ℤ, pos, negsuc, neg_ℤ, ◌+ℤ◌}
use Rattle.words.specs.Words.{be, bytes, zeros}
use Rattle.words.specs.Signed.{signed}
use Rattle.answers.specs.Answers as A
use Rattle.objects.specs.Object.{Object, filemark, block}
use Rattle.objects.specs.Movement as M
use Rattle.objects.specs.Transfer.{fitting, put_from}
use Rattle.image.specs.Image.{count, flags, directory, size, entry, top_bit, low31, end_at, follows, ordered, right_length, sound, object_at, upto, objects}
use Rattle.image.specs.Example.{E}
use Rattle.changes.specs.Changes.{occurs}
use Rattle.sense.specs.Sense.{sense_bytes, empty_sense}
use Rattle.record.specs.Record.{decode_of, encode_of, attention_known, placed, well_formed, well_record, with_sense}
use Rattle.codes.specs.Codes.{too_short, in_masks, masks_hold}
use Rattle.codes.specs.Fields.{space_code_of, space_count_of}
use Rattle.commands.specs.Act.{offered, goes_down, space_tells, movement, spacing, act, events_of}
use Rattle.commands.specs.Tests.{tests, field_error, taken, reply_length, needed}
use Rattle.commands.specs.Step.{status_of, kept_of, acted, unless, step}
use Rattle.commands.specs.Call.{Result, looks_at, seen_of, seen, inserted, laid_out, applied, step_of, called, command_call}
use Rattle.merged.specs.Merged.{second, Done, Merges, Command, calling, then_calling, Good, SpaceOver, bytes6, FitsIn, space_command}
use Rattle.merged.proofs.Hosts.{host_spaces}

-- ---- over objects

-- a block and a filemark, as on E; two files of one block each; a filemark between two blocks
abbrev tape : List Object
tape = block (1 ∷ 2 ∷ 3 ∷ []) ∷ filemark ∷ []

abbrev files : List Object
files = block (1 ∷ []) ∷ filemark ∷ block (2 ∷ []) ∷ filemark ∷ []

abbrev parted : List Object
parted = block (1 ∷ []) ∷ filemark ∷ block (2 ∷ []) ∷ []

-- "filemarks a followed by −a need not return": on by 1 to 2, back by 1 to 1, not 0
pub no_return : Done (M.space M.filemarks (pos 1) 0 tape) × Done (second M.filemarks (pos 1) (negsuc 0) 0 tape) × ((M.space M.filemarks (pos 1) 0 tape).to ≡ 2) × ((second M.filemarks (pos 1) (negsuc 0) 0 tape).to ≡ 1)
unfolding M.walk M.before M.ahead M.astern M.space
no_return = (refl, refl, refl, refl)

-- mixed signs over filemarks: on by 2 and back by 1 to 3, on by 1 to 2; all done
pub mixed_apart : Done (M.space M.filemarks (pos 2) 0 files) × Done (second M.filemarks (pos 2) (negsuc 0) 0 files) × ((second M.filemarks (pos 2) (negsuc 0) 0 files).to ≡ 3) × Done (M.space M.filemarks (pos 1) 0 files) × ((M.space M.filemarks (pos 1) 0 files).to ≡ 2)
unfolding M.walk M.before M.ahead M.astern M.space
mixed_apart = (refl, refl, refl, refl, refl)

-- blocks, where a filemark ends the first: by 2 to 2, behind the filemark, and by 1 on to 3; by 3 to 2, and not done
pub behind_a_filemark : ((M.space M.blocks (pos 2) 0 parted).why ≡ M.marked) × Done (second M.blocks (pos 2) (pos 1) 0 parted) × ((second M.blocks (pos 2) (pos 1) 0 parted).to ≡ 3) × ((M.space M.blocks (pos 3) 0 parted).why ≡ M.marked) × ((M.space M.blocks (pos 3) 0 parted).to ≡ 2)
unfolding M.walk M.before M.ahead M.astern M.space
behind_a_filemark = (refl, refl, refl, refl, refl)

-- blocks, there and back, where the first meets end of data: the one, by 0, is done and hides it
pub hides_the_end : ((M.space M.blocks (pos 3) 2 parted).why ≡ M.edge) × Done (M.space M.blocks (pos 3 +ℤ negsuc 2) 2 parted)
unfolding M.walk M.before M.ahead M.astern M.space
hides_the_end = (refl, refl)

-- so over filemarks there is no law for mixed signs, none of coming home, and over blocks none for a first that ends at a filemark
pub not_mixed : ((a b : ℤ) (p : ℕ) (xs : List Object) → Done (M.space M.filemarks a p xs) → Done (second M.filemarks a b p xs) → Merges M.filemarks a b p xs) → ⊥
not_mixed law =
    let m = mixed_apart in
    let e : (M.space M.filemarks (pos 1) 0 files).to ≡ (second M.filemarks (pos 2) (negsuc 0) 0 files).to = (law (pos 2) (negsuc 0) 0 files m.0 m.1).place in
    omega (arith, e, m.2, m.4)

pub not_home : ((a : ℤ) (p : ℕ) (xs : List Object) → Done (M.space M.filemarks a p xs) → Done (second M.filemarks a (neg_ℤ a) p xs) → (second M.filemarks a (neg_ℤ a) p xs).to ≡ p) → ⊥
not_home law = let m = no_return in let e : (second M.filemarks (pos 1) (negsuc 0) 0 tape).to ≡ 0 = law (pos 1) 0 tape m.0 m.1 in omega (arith, e, m.3)

pub not_behind_a_filemark : ((a b : ℤ) (p : ℕ) (xs : List Object) → (M.space M.blocks a p xs).why ≡ M.marked → Done (second M.blocks a b p xs) → Merges M.blocks a b p xs) → ⊥
not_behind_a_filemark law =
    let m = behind_a_filemark in
    let e : (M.space M.blocks (pos 3) 0 parted).to ≡ (second M.blocks (pos 2) (pos 1) 0 parted).to = (law (pos 2) (pos 1) 0 parted m.0 m.1).place in
    omega (arith, e, m.2, m.4)

-- ---- and as calls, on 01's example E from its beginning

abbrev beginning : List ℕ
beginning = (1 ∷ 1 ∷ 0 ∷ 0 ∷ []) ++ bytes 4 0 ++ bytes 4 0 ++ (0x70 ∷ 0 ∷ 0 ∷ 0 ∷ 0 ∷ 0 ∷ 0 ∷ 0x0A ∷ zeros 10)

abbrev over : ℤ → Command
over k = space_command bytes6 M.filemarks k [] []

abbrev first : Result
first = calling (over (pos 1)) beginning E []

abbrev back : Result
back = then_calling (over (negsuc 0)) first

abbrev instead : Result
instead = calling (over (pos 0)) beginning E []

-- on by one filemark, and back by one: GOOD, GOOD, and not home; the one in their place, by 0, is GOOD and stays there
pub calls_apart : Good first × Good back × ((decode_of back.rec).position ≡ 1) × Good instead × ((decode_of instead.rec).position ≡ 0)
unfolding E be bytes signed M.walk M.before M.ahead M.astern M.space fitting put_from count flags directory size entry top_bit low31 end_at follows ordered right_length sound object_at upto objects occurs
    sense_bytes empty_sense decode_of encode_of attention_known placed well_formed well_record with_sense too_short in_masks masks_hold space_code_of space_count_of A.first
    offered goes_down space_tells movement spacing act events_of field_error taken reply_length needed tests status_of kept_of acted unless step looks_at seen_of seen inserted laid_out applied step_of called command_call
calls_apart = (refl, refl, refl, refl, refl)

-- so of the calls there is no law for mixed signs over filemarks either
pub calls_not_mixed : ((a b : ℤ) (rec p0 p1 : List ℕ) (x y z : Command) → SpaceOver M.filemarks a x → SpaceOver M.filemarks b y → SpaceOver M.filemarks (a +ℤ b) z
    → Good (calling x rec p0 p1) → Good (then_calling y (calling x rec p0 p1)) → (calling z rec p0 p1).rec ≡ (then_calling y (calling x rec p0 p1)).rec) → ⊥
calls_not_mixed law =
    let m = calls_apart in
    let spaces : (k : ℤ) → FitsIn bytes6 k → SpaceOver M.filemarks k (over k) = λ k h. host_spaces bytes6 M.filemarks k [] [] h in
    let e : instead.rec ≡ back.rec = law (pos 1) (negsuc 0) beginning E [] (over (pos 1)) (over (negsuc 0)) (over (pos 0)) (spaces (pos 1) (omega arith)) (spaces (negsuc 0) (omega arith)) (spaces (pos 0) (omega arith)) m.0 m.1 in
    omega (arith, ap (λ (r : List ℕ). (decode_of r).position) e, m.2, m.4)

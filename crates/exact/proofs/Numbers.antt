-- The number that each entry for C returns says the four numbers of its answer: the status is 00h or 02h, the refusal is below 8, the bytes carried
-- are below 2^32, the objects crossed below 2^28, and the header's macros give them back. A view's number gives back the start and length of the part.
-- Assumes nothing.
use Prim.Native.Nat.{ℕ, suc, ◌+◌, ◌-◌, ◌*◌, ◌/◌, ◌%◌, ◌^◌, ◌<◌}
use mathlib.Core.Path.{◌≡◌, refl, sym, ap, ◌∙◌, subst}
use mathlib.Core.Logic.{◌⊎◌, inl, inr}
use mathlib.Core.Bool.{Bool, true, false, cond, not, ◌&&◌}
use mathlib.Core.Option.{Option, none, some}
use mathlib.Core.List.{List}
use native.Mathlib.Omega.{arith}
use lib.Dec.{eqb, ltb}
use Rattle.answers.specs.declared.Answer.{Answer}
use Rattle.answers.specs.Answers.{check_condition, packed_three, packed}
use Rattle.answers.proofs.Fields.{Unpacked, unpacked, ByNumber, number_fits, part_unpacked}
use Rattle.image.specs.declared.part.Part.{Part}
use Rattle.image.specs.Image.{count, entry, top_bit, end_at, sound}
use Rattle.image.specs.Parts.{empty_part, part_of}
use Rattle.image.proofs.Facts.{end_lt}
use Rattle.sense.specs.declared.Sense.{Sense}
use Rattle.codes.specs.declared.operation.Operation.{Operation}
use Rattle.codes.specs.Codes.{code_of, operation_of}
use Rattle.house.specs.Mount.{fresh_call, mount_call}
use Rattle.house.specs.Images.{blank_call, protect_call}
use Rattle.house.proofs.Answered.{fresh_answers, mount_answers, blank_answers, protect_answers}
use Rattle.views.specs.Views.{view_of}
use Rattle.commands.specs.Step.{status_of, acted}
use Rattle.commands.specs.Call.{Lent, Result, applied, command_call}
use Rattle.commands.proofs.Crossed.{call_fits}
use Rattle.history.proofs.Ended.{Finished, by_number, by_sense, by_act, ended}
use Rattle.answers.specs.Answers.{numbered}
use Rattle.views.specs.Views.{view_number}
use Rattle.commands.specs.Call.{numbered_result}
use Rattle.exact.specs.Numbers.{status_in, InBits, Says, Shows}
use Rattle.exact.proofs.Small.{carries}

-- ---- a number, by its parts

-- without the fourth, by whether the status is 02h
low_bits : (a : Answer) → InBits a → packed a % 2 ^ 36 ≡ packed_three a
unfolding packed
low_bits a f = go (eqb a.status check_condition) f.carried f.fields.0
  where
    go : (t : Bool) → a.carried < 2 ^ 32 → a.refusal < 8
        → (a.carried + a.refusal * 2 ^ 32 + cond t (2 ^ 35) 0 + a.crossed * 2 ^ 36) % 2 ^ 36 ≡ a.carried + a.refusal * 2 ^ 32 + cond t (2 ^ 35) 0
    go true c r = omega arith
    go false c r = omega arith

-- what crosses nothing has the number that it had before there was a fourth
pub number_as_before : (a : Answer) → a.crossed ≡ 0 → packed a ≡ packed_three a
unfolding packed
number_as_before a z = omega (arith, z)

pub says : (a : Answer) → InBits a → Says (packed a) a
says a f = record { fits = f; carried = u.carried; refusal = u.refusal; status = go f.status; crossed = c; low = low_bits a f; whole = u.whole }
  where
    u : Unpacked (packed a) a
    u = unpacked a f.carried f.fields

    c : packed a / 2 ^ 36 % 2 ^ 32 ≡ a.crossed
    c = omega (arith, u.crossed, f.fields.1)

    -- the bit that says the status is t
    bit : (t : Bool) → eqb a.status check_condition ≡ t → a.status ≡ cond t check_condition 0x00 → status_in (packed a) ≡ a.status
    bit true e q = let z : packed a / 2 ^ 35 % 2 ≡ 1 = u.status ∙ ap (λ (t : Bool). cond t 1 0) e in omega arith
    bit false e q = let z : packed a / 2 ^ 35 % 2 ≡ 0 = u.status ∙ ap (λ (t : Bool). cond t 1 0) e in omega arith

    go : (a.status ≡ 0x00) ⊎ (a.status ≡ check_condition) → status_in (packed a) ≡ a.status
    go (inl e) = bit false (rw e refl) e
    go (inr e) = bit true (rw e refl) e

-- ---- the house services

number_bits : (a : Answer) → ByNumber a → InBits a
number_bits a b = record { status = inl (ap (λ (x : Answer). x.status) b.is); carried = rw b.is (omega arith); fields = number_fits a b }

pub fresh_number : (rec : List ℕ) → Says (numbered (fresh_call rec)).0 (fresh_call rec).answer
fresh_number rec = says _ (number_bits _ (fresh_answers rec))

pub mount_number : (rec p0 p1 : List ℕ) → Says (numbered (mount_call rec p0 p1)).0 (mount_call rec p0 p1).answer
mount_number rec p0 p1 = says _ (number_bits _ (mount_answers rec p0 p1))

pub blank_number : (s : List ℕ) → Says (numbered (blank_call s)).0 (blank_call s).answer
blank_number s = says _ (number_bits _ (blank_answers s))

pub protect_number : (on : Bool) (s : List ℕ) → Says (numbered (protect_call on s)).0 (protect_call on s).answer
protect_number on s = says _ (number_bits _ (protect_answers on s))

-- ---- the command

module _ (rec : List ℕ) (x : Lent) where
  abbrev R : Result
  R = command_call rec x

  status_known : (t : Option Sense) → (status_of t ≡ 0x00) ⊎ (status_of t ≡ check_condition)
  unfolding status_of
  status_known none = inl refl
  status_known (some s) = inr refl

  -- "SCSI status (00h or 02h)"; and the four numbers fit
  pub command_fits : InBits R.answer
  unfolding applied acted
  command_fits = go (ended rec x.cmd x.part0 x.part1 x.sent x.received)
    where
      go : Finished rec x.cmd x.part0 x.part1 x.sent x.received → InBits R.answer
      go (by_number n h f e) =
          let q = ap (λ (r : Result). r.answer) e in
          record { status = inl (ap (λ (a : Answer). a.status) q); fields = call_fits rec x; carried = rw (ap (λ (a : Answer). a.carried) q) (omega arith) }
      go (by_sense s f e b w p l q) =
          let a = ap (λ (r : Result). r.answer) q in
          record { status = inr (ap (λ (z : Answer). z.status) a); fields = call_fits rec x; carried = rw (ap (λ (z : Answer). z.carried) a) (omega arith) }
      go (by_act f w q e) =
          let o : Operation = operation_of (code_of x.cmd) in
          let c = ap (λ (r : Result). r.answer.carried) e in
          let s = ap (λ (r : Result). r.answer.status) e in
          record { status = subst (λ (n : ℕ). (n ≡ 0x00) ⊎ (n ≡ check_condition)) (sym s) (status_known _); fields = call_fits rec x; carried = subst (λ (n : ℕ). n < 2 ^ 32) (sym c) (carries rec x w o q) }

  pub command_number : Says (numbered_result (command_call rec x)).number (command_call rec x).answer
  command_number = says _ command_fits

-- ---- the view

part_small : (s : List ℕ) (i : ℕ) → ((part_of s i).start < 2 ^ 31) × ((part_of s i).len < 2 ^ 31)
unfolding part_of
part_small s i = go (sound s && ltb i (count s) && not (top_bit (entry s i)))
  where
    P : Part
    P = record { start = end_at s i; len = end_at s (suc i) - end_at s i }

    go : (t : Bool) → ((cond t P empty_part).start < 2 ^ 31) × ((cond t P empty_part).len < 2 ^ 31)
    go true = (end_lt s i, omega (arith, end_lt s (suc i)))
    go false = (omega arith, omega arith)

view_small : (p0 p1 : List ℕ) (k i : ℕ) → ((view_of p0 p1 k i).start < 2 ^ 31) × ((view_of p0 p1 k i).len < 2 ^ 31)
unfolding view_of
view_small p0 p1 k i = go (eqb k 0) (eqb k 1)
  where
    go : (a b : Bool) → ((cond a (part_of p0 i) (cond b (part_of p1 i) empty_part)).start < 2 ^ 31) × ((cond a (part_of p0 i) (cond b (part_of p1 i) empty_part)).len < 2 ^ 31)
    go true b = part_small p0 i
    go false true = part_small p1 i
    go false false = (omega arith, omega arith)

pub view_number_lem : (p0 p1 : List ℕ) (k i : ℕ) → Shows (view_number p0 p1 k i) (view_of p0 p1 k i).start (view_of p0 p1 k i).len
view_number_lem p0 p1 k i =
    let s = view_small p0 p1 k i in
    let u = part_unpacked (view_of p0 p1 k i).start (view_of p0 p1 k i).len (omega (arith, s.1)) in
    record { begins = omega (arith, s.0, u.1); lasts = u.0; whole = omega (arith, s.0, u.1) }

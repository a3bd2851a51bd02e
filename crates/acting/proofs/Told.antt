-- In an arm of a `match` that several commands share: what is so of each of them is so of the operation.
-- Assumes nothing.
use Prim.Native.Nat.{ℕ}
use mathlib.Core.Path.{◌≡◌, refl, ap, ◌∙◌}
use mathlib.Core.Bool.{Bool, true, false}
use mathlib.Core.List.{List, [], ◌∷◌}
use mathlib.Core.Logic.{◌⊎◌, inl, inr}
use denote.Enum.Declared.{tag_of}
use types.Run.{OneOf}
use borrow.Author.Rules.{rules}
use borrow.Enum.Known.{ValuesAt, at, lives_at}
use Rattle.codes.specs.declared.operation.Operation.{Operation}
use Rattle.codes.specs.declared.operation.Operation.TheVariants.{TestUnitReady, Rewind, RequestSense, ReadBlockLimits, Read, Write, WriteFilemarks, Space, ModeSelect, Erase, ModeSense, LoadUnload, Locate, ReadPosition, Space16, Locate16, NotServed}
use Rattle.codes.specs.contracts.operation.Operation.{enum, the_type}
use Rattle.commands.specs.Kinds.{needs_cartridge}

-- f is b at each variant, of these keys
abbrev Each : (Operation → Bool) → Bool → List ℕ → Type 0
Each f b [] = Unit {0}
Each f b (k ∷ ks) = ((v : ValuesAt enum.parts k) → f (at enum k v) ≡ b) × Each f b ks

each : (o : Operation) (f : Operation → Bool) (b : Bool) (ks : List ℕ) → Each f b ks → OneOf ks (tag_of the_type o) → f o ≡ b
each o f b [] h m = absurd m
each o f b (k ∷ []) h m = let w = lives_at enum o k m in ap f w.1 ∙ h.0 w.0
each o f b (k ∷ (j ∷ ks)) h (inl m) = let w = lives_at enum o k m in ap f w.1 ∙ h.0 w.0
each o f b (k ∷ (j ∷ ks)) h (inr m) = each o f b (j ∷ ks) h.1 m

abbrev keys : List Operation → List ℕ
keys [] = []
keys (x ∷ xs) = tag_of the_type x ∷ keys xs

-- the commands that need no cartridge, and all others, in the order of their variants
abbrev apart : List Operation
apart = RequestSense ∷ ReadBlockLimits ∷ ModeSelect ∷ ModeSense ∷ []

abbrev others : List Operation
others = TestUnitReady ∷ Rewind ∷ Read ∷ Write ∷ WriteFilemarks ∷ Space ∷ Erase ∷ LoadUnload ∷ Locate ∷ ReadPosition ∷ Space16 ∷ Locate16 ∷ NotServed ∷ []

module _ (o : Operation) where
  pub told_apart : OneOf (keys apart) (tag_of the_type o) → needs_cartridge o ≡ false
  told_apart m = each o needs_cartridge false (keys apart) (search rules) m

  pub told_others : OneOf (keys others) (tag_of the_type o) → needs_cartridge o ≡ true
  told_others m = each o needs_cartridge true (keys others) (λ v. refl, (λ v. refl, (λ v. refl, (λ v. refl, (λ v. refl, (λ v. refl, (λ v. refl, (λ v. refl, (λ v. refl, (λ v. refl, (λ v. refl, (λ v. refl, (λ v. refl, tt))))))))))))) m

-- what is one of the four has its key among theirs
pub among_apart : (o : Operation) → (o ≡ RequestSense) ⊎ ((o ≡ ReadBlockLimits) ⊎ ((o ≡ ModeSelect) ⊎ (o ≡ ModeSense))) → OneOf (keys apart) (tag_of the_type o)
among_apart o (inl e) = inl (ap (tag_of the_type) e)
among_apart o (inr (inl e)) = inr (inl (ap (tag_of the_type) e))
among_apart o (inr (inr (inl e))) = inr (inr (inl (ap (tag_of the_type) e)))
among_apart o (inr (inr (inr e))) = inr (inr (inr (ap (tag_of the_type) e)))

-- what is none of the four is one of the others
pub among_others : (o : Operation) → (o ≡ RequestSense → ⊥) → (o ≡ ReadBlockLimits → ⊥) → (o ≡ ModeSelect → ⊥) → (o ≡ ModeSense → ⊥) → OneOf (keys others) (tag_of the_type o)
among_others TestUnitReady a b c d = inl refl
among_others Rewind a b c d = inr (inl refl)
among_others RequestSense a b c d = absurd (a refl)
among_others ReadBlockLimits a b c d = absurd (b refl)
among_others Read a b c d = inr (inr (inl refl))
among_others Write a b c d = inr (inr (inr (inl refl)))
among_others WriteFilemarks a b c d = inr (inr (inr (inr (inl refl))))
among_others Space a b c d = inr (inr (inr (inr (inr (inl refl)))))
among_others ModeSelect a b c d = absurd (c refl)
among_others Erase a b c d = inr (inr (inr (inr (inr (inr (inl refl))))))
among_others ModeSense a b c d = absurd (d refl)
among_others LoadUnload a b c d = inr (inr (inr (inr (inr (inr (inr (inl refl)))))))
among_others Locate a b c d = inr (inr (inr (inr (inr (inr (inr (inr (inl refl))))))))
among_others ReadPosition a b c d = inr (inr (inr (inr (inr (inr (inr (inr (inr (inl refl)))))))))
among_others Space16 a b c d = inr (inr (inr (inr (inr (inr (inr (inr (inr (inr (inl refl))))))))))
among_others Locate16 a b c d = inr (inr (inr (inr (inr (inr (inr (inr (inr (inr (inr (inl refl)))))))))))
among_others NotServed a b c d = inr (inr (inr (inr (inr (inr (inr (inr (inr (inr (inr (inr refl)))))))))))

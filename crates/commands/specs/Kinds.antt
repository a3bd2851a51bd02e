-- What kind of command an operation is: which of 01's general rules speak of it.
-- Assumes nothing: these are definitions.
use Rattle.std.specs.Prelude.{Bool, true, false, cond, not, List, [], ◌∷◌, eqb}
use Rattle.codes.specs.declared.operation.Operation.{Operation}
use Rattle.codes.specs.declared.operation.Operation.TheVariants.{RequestSense, ReadBlockLimits, Write, WriteFilemarks, ModeSelect, Erase, ModeSense, Locate, Locate16, NotServed}
use Rattle.codes.specs.Codes.{number_of}

-- o is one of these
abbrev pub among : List Operation → Operation → Bool
among [] o = false
among (x ∷ xs) o = cond (eqb (number_of o) (number_of x)) true (among xs o)

-- "REQUEST SENSE passes it": the attention
abbrev pub passes_attention : Operation → Bool
passes_attention o = among (RequestSense ∷ []) o

-- "operation code not served"
abbrev pub is_served : Operation → Bool
is_served o = not (among (NotServed ∷ []) o)

-- "03, 05, 15, 1A need no cartridge."
abbrev pub needs_cartridge : Operation → Bool
needs_cartridge o = not (among (RequestSense ∷ ReadBlockLimits ∷ ModeSelect ∷ ModeSense ∷ []) o)

-- ERASE, and LOCATE of either length, which looks at its target
abbrev pub erases : Operation → Bool
erases o = among (Erase ∷ []) o

abbrev pub locates : Operation → Bool
locates o = among (Locate ∷ Locate16 ∷ []) o

-- "protection of the current partition for WRITE, WRITE FILEMARKS and ERASE at any count"
abbrev pub writes : Operation → Bool
writes o = among (Write ∷ WriteFilemarks ∷ Erase ∷ []) o

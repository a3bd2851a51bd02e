-- How many bytes of room a listing needs at most, whatever the input.
-- Assumes nothing: these are definitions.
use Rattle.std.specs.Prelude.{ℕ}

-- line one: two words, two numbers of at most five digits, and its end
abbrev pub heading_room : ℕ
heading_room = 25

-- an object's line: a number of at most five digits, " block ", a length of at most five digits, and its end
abbrev pub line_room : ℕ
line_room = 18

-- line one and the lines of at most 16,380 objects, rounded up to whole pages of 4,096 bytes
abbrev pub text_room : ℕ
text_room = 294912

-- What a C program reads out of the number that an entry returns, macro by macro of include/stormtoggle.h. That this gives back the numbers of the
-- answer: proofs/Numbers.antt.
-- Assumes nothing: these are definitions.
use Rattle.std.specs.Prelude.{ℕ, ◌*◌, ◌/◌, ◌%◌, ◌^◌, ◌<◌, ◌≡◌, ◌⊎◌}
use Rattle.answers.specs.declared.Answer.{Answer}
use Rattle.answers.specs.Answers.{check_condition, InFields, packed_three}

-- STORMTOGGLE_CARRIED(answer): (uint32_t)(answer)
abbrev pub carried_in : ℕ → ℕ
carried_in n = n % 2 ^ 32

-- STORMTOGGLE_REFUSAL(answer): (uint64_t)(answer) >> 32 & 7
abbrev pub refusal_in : ℕ → ℕ
refusal_in n = n / 2 ^ 32 % 8

-- STORMTOGGLE_STATUS(answer): ((uint64_t)(answer) >> 35 & 1) << 1
abbrev pub status_in : ℕ → ℕ
status_in n = n / 2 ^ 35 % 2 * 2

-- STORMTOGGLE_CROSSED(answer): (uint32_t)((uint64_t)(answer) >> 36)
abbrev pub crossed_in : ℕ → ℕ
crossed_in n = n / 2 ^ 36 % 2 ^ 32

-- STORMTOGGLE_VIEW_LENGTH(view): (uint32_t)(view)
abbrev pub length_in : ℕ → ℕ
length_in n = n % 2 ^ 32

-- STORMTOGGLE_VIEW_START(view): (uint32_t)((uint64_t)(view) >> 32)
abbrev pub start_in : ℕ → ℕ
start_in n = n / 2 ^ 32 % 2 ^ 32

-- "SCSI status (00h or 02h)", and each number in its bits
pub record InBits (a : Answer) : Type 0 where
  pub status : (a.status ≡ 0x00) ⊎ (a.status ≡ check_condition)
  pub carried : a.carried < 2 ^ 32
  pub fields : InFields a

-- the returned number, of 64 bits, says the four numbers; its bits 0 to 35 say the first three as they did without the fourth (Q-10)
pub record Says (n : ℕ) (a : Answer) : Type 0 where
  pub fits : InBits a
  pub carried : carried_in n ≡ a.carried
  pub refusal : refusal_in n ≡ a.refusal
  pub status : status_in n ≡ a.status
  pub crossed : crossed_in n ≡ a.crossed
  pub low : n % 2 ^ 36 ≡ packed_three a
  pub whole : n < 2 ^ 64

-- a view's number says the start and the length of the part
pub record Shows (n start len : ℕ) : Type 0 where
  pub begins : start_in n ≡ start
  pub lasts : length_in n ≡ len
  pub whole : n < 2 ^ 64

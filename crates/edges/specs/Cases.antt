-- 01, "Cases at the edges": each case as record, cartridge and command in, and answer, sense, data, position and cartridge out. A case that names no
-- block length begins with the one that a mount sets (Q-3).
-- Assumes nothing: these are definitions.
use Rattle.std.specs.Prelude.{ℕ, ◌≡◌, List, [], ◌∷◌, ◌++◌, replicate}
use Rattle.answers.specs.Answers.{answered}
use Rattle.words.specs.Words.{bytes, over, zeros}
use Rattle.record.specs.Record.{mounted_block_length}
use Rattle.codes.specs.Six.{six}
use Rattle.image.specs.Example.{E}
use Rattle.commands.specs.Call.{lent, Result, result_of, command_call}

pub record Case : Type 0 where
  -- in: the position, the block length, the cartridge, the command, the bytes sent
  pub from : ℕ
  pub block_length : ℕ
  pub cartridge : List ℕ
  pub command : List ℕ
  pub sent : List ℕ
  -- out: the status, the bytes carried, the objects crossed (Q-10), the kept sense, the position, the block length, the data received, the cartridge
  pub status : ℕ
  pub carried : ℕ
  pub crossed : ℕ
  pub sense : List ℕ
  pub to : ℕ
  pub block_length_after : ℕ
  pub received : List ℕ
  pub left : List ℕ

-- a record of a drive with one partition and no attention: position, block length, kept sense
abbrev pub record_at : ℕ → ℕ → List ℕ → List ℕ
record_at position block_length sense = (1 ∷ 1 ∷ 0 ∷ 0 ∷ []) ++ bytes 4 position ++ bytes 4 block_length ++ sense

-- eighteen sense bytes: byte 0, byte 2, information, ASC, ASCQ
abbrev pub sense18 : ℕ → ℕ → ℕ → ℕ → ℕ → List ℕ
sense18 b0 b2 information asc ascq = (b0 ∷ 0 ∷ b2 ∷ []) ++ bytes 4 information ++ (0x0A ∷ []) ++ zeros 4 ++ (asc ∷ ascq ∷ []) ++ zeros 4

abbrev pub nothing_kept : List ℕ
nothing_kept = sense18 0x70 0x00 0 0x00 0x00

-- the receiving buffer: sixteen bytes of FF, so that what is not carried shows
abbrev pub buffer : List ℕ
buffer = replicate 16 0xFF

-- the whole call, and what is left by it
abbrev pub call_of : Case → Result
call_of c = command_call (record_at c.from c.block_length nothing_kept) (lent c.command c.cartridge [] c.sent buffer)

abbrev pub expected : Case → Result
expected c =
    result_of (answered c.status c.carried c.crossed) (record_at c.to c.block_length_after c.sense)
    (lent c.command c.left [] c.sent (over buffer 0 c.received))

-- every case of a list is as expected
unfoldable pub Edges : List Case → Type 0
Edges [] = Unit {0}
Edges (c ∷ cs) = (call_of c ≡ expected c) × Edges cs

-- ---- the cartridges, of 64 bytes, byte by byte

-- N, flags 0, D, L
abbrev pub trailer : ℕ → ℕ → List ℕ
trailer n d = bytes 4 n ++ bytes 4 0 ++ bytes 4 d ++ bytes 4 64

-- "Blank"
unfoldable pub bare64 : List ℕ
bare64 = zeros 48 ++ trailer 0 48

-- three objects, by their entries
abbrev pub three : ℕ → ℕ → ℕ → List ℕ
three e0 e1 e2 = zeros 36 ++ bytes 4 e2 ++ bytes 4 e1 ++ bytes 4 e0 ++ trailer 3 36

-- a block of 44 sevens, which fills it
unfoldable pub full : List ℕ
full = replicate 44 7 ++ bytes 4 44 ++ trailer 1 44

-- "After a 10-byte block": ten nines
unfoldable pub ten : List ℕ
ten = replicate 10 9 ++ zeros 34 ++ bytes 4 10 ++ trailer 1 44

-- and behind it 7 filemarks, or 8: each ends where the block does
unfoldable pub ten_and7 : List ℕ
ten_and7 =
    replicate 10 9 ++ zeros 6
    ++ bytes 4 0x8000000A ++ bytes 4 0x8000000A ++ bytes 4 0x8000000A ++ bytes 4 0x8000000A ++ bytes 4 0x8000000A ++ bytes 4 0x8000000A ++ bytes 4 0x8000000A
    ++ bytes 4 10 ++ trailer 8 16

unfoldable pub ten_and8 : List ℕ
ten_and8 =
    replicate 10 9 ++ zeros 2
    ++ bytes 4 0x8000000A ++ bytes 4 0x8000000A ++ bytes 4 0x8000000A ++ bytes 4 0x8000000A ++ bytes 4 0x8000000A ++ bytes 4 0x8000000A ++ bytes 4 0x8000000A ++ bytes 4 0x8000000A
    ++ bytes 4 10 ++ trailer 9 12

-- ---- the commands

-- MODE SELECT of a block length: the command, and the list that goes with it
abbrev pub select : List ℕ
select = six 0x15 0x10 12

abbrev pub select_list : ℕ → List ℕ
select_list n = (0 ∷ 0 ∷ 0 ∷ 8 ∷ []) ++ zeros 5 ++ bytes 3 n

abbrev pub locate : ℕ → List ℕ
locate object = (0x2B ∷ 0 ∷ 0 ∷ []) ++ bytes 4 object ++ (0 ∷ 0 ∷ 0 ∷ [])

-- an edge: in from, block length, cartridge, command, sent; out status, carried, sense, to, received, cartridge
abbrev pub edge : ℕ → ℕ → List ℕ → List ℕ → List ℕ → ℕ → ℕ → List ℕ → ℕ → List ℕ → List ℕ → Case
edge from block_length cartridge command sent status carried sense to received left =
    record { from = from; block_length = block_length; cartridge = cartridge; command = command; sent = sent; status = status; carried = carried; crossed = 0; sense = sense; to = to; block_length_after = block_length; received = received; left = left }

-- the same where n objects are crossed
abbrev pub crossing : ℕ → Case → Case
crossing n c =
    record { from = c.from; block_length = c.block_length; cartridge = c.cartridge; command = c.command; sent = c.sent; status = c.status; carried = c.carried; crossed = n; sense = c.sense; to = c.to; block_length_after = c.block_length_after; received = c.received; left = c.left }

-- the same where another block length is left
abbrev pub leaving : ℕ → Case → Case
leaving n c =
    record { from = c.from; block_length = c.block_length; cartridge = c.cartridge; command = c.command; sent = c.sent; status = c.status; carried = c.carried; crossed = c.crossed; sense = c.sense; to = c.to; block_length_after = n; received = c.received; left = c.left }

-- ---- the table

unfoldable pub cases : List Case
cases =
    -- P1 blank: WRITE 44: put, 0/00/02, information 0
    edge 0 mounted_block_length bare64 (six 0x0A 0 44) (replicate 44 7) 2 44 (sense18 0xF0 0x40 0 0x00 0x02) 1 [] full ∷
    -- P2 WRITE 45: D/00/02, information 45, N 0
    edge 0 mounted_block_length bare64 (six 0x0A 0 45) (replicate 45 7) 2 0 (sense18 0xF0 0x4D 45 0x00 0x02) 0 [] bare64 ∷
    -- P3 after a 10-byte block, filemarks: 7 GOOD
    edge 1 mounted_block_length ten (six 0x10 0 7) [] 0 0 nothing_kept 8 [] ten_and7 ∷
    -- P4 8 put, zone
    edge 1 mounted_block_length ten (six 0x10 0 8) [] 2 0 (sense18 0xF0 0x40 0 0x00 0x02) 9 [] ten_and8 ∷
    -- P5 9: 8 put, residue 1
    edge 1 mounted_block_length ten (six 0x10 0 9) [] 2 0 (sense18 0xF0 0x4D 1 0x00 0x02) 9 [] ten_and8 ∷
    -- P6 on E: READ 5 at 0: 3 bytes, ILI, 2
    edge 0 mounted_block_length E (six 0x08 0 5) [] 2 3 (sense18 0xF0 0x20 2 0x00 0x00) 1 (1 ∷ 2 ∷ 3 ∷ []) E ∷
    -- P7 READ 2 at 0: 2 bytes, FFFFFFFFh; with SILI GOOD: "P7's SILI half, which now selects length 0 first" (Q-3)
    edge 0 mounted_block_length E (six 0x08 0 2) [] 2 2 (sense18 0xF0 0x20 0xFFFFFFFF 0x00 0x00) 1 (1 ∷ 2 ∷ []) E ∷
    leaving 0 (edge 0 mounted_block_length E select (select_list 0) 0 12 nothing_kept 0 [] E) ∷
    edge 0 0 E (six 0x08 2 2) [] 0 2 nothing_kept 1 (1 ∷ 2 ∷ []) E ∷
    -- P8 block length 3, FIXED 2 at 0: 3 bytes, filemark, residue 1, position 2
    edge 0 3 E (six 0x08 1 2) [] 2 3 (sense18 0xF0 0x80 1 0x00 0x01) 2 (1 ∷ 2 ∷ 3 ∷ []) E ∷
    -- P9 block length 4, FIXED 2 at 0: ILI, 2, position 1
    edge 0 4 E (six 0x08 1 2) [] 2 0 (sense18 0xF0 0x20 2 0x00 0x00) 1 [] E ∷
    -- P10 SPACE blocks −5 at 2: F0 00 80 FF FF FF FB 0A, byte 13 01, position 1
    crossing 1 (edge 2 mounted_block_length E (six 0x11 0 0xFFFFFB) [] 2 0 (sense18 0xF0 0x80 0xFFFFFFFB 0x00 0x01) 1 [] E) ∷
    -- P11 at 1: FFFFFFFCh, 0/00/04, position 0
    crossing 1 (edge 1 mounted_block_length E (six 0x11 0 0xFFFFFB) [] 2 0 (sense18 0xF0 0x40 0xFFFFFFFC 0x00 0x04) 0 [] E) ∷
    -- P12 LOCATE 2 GOOD, 3 blank check at 2
    edge 0 mounted_block_length E (locate 2) [] 0 0 nothing_kept 2 [] E ∷
    edge 0 mounted_block_length E (locate 3) [] 2 0 (sense18 0x70 0x08 0 0x00 0x05) 2 [] E ∷
    -- READ 5 at 1: residue 5, position 2
    edge 1 mounted_block_length E (six 0x08 0 5) [] 2 0 (sense18 0xF0 0x80 5 0x00 0x01) 2 [] E ∷
    []

-- A table beside an index of blocks. It divides the IPv4 addresses into ranges that have one answer each, and into equal
-- parts: the entry of a part that lies within one range is the answer.
-- Pinned by: `RouteTablesOnce`, `worked/route`
use Rattle.std.specs.Prelude.{ℕ, ⊤, ◌≡◌, ◌+◌, ◌-◌, ◌*◌, ◌/◌, ◌%◌, ◌^◌, ◌<◌, ◌≤◌, ◌⊎◌, All, List, drop, length, slice_index_or, take}
use Rattle.app_router.specs.Index.{IsChosenAt, block_at}
use Rattle.app_router.specs.declared.index.Node.{Node}
use Rattle.ip_wire.specs.Bytes.{IsByteArray}
use Rattle.ip_wire.specs.IpCidr.{IsIn}
use Rattle.ip_wire.specs.Prefix.{number_of}
use Rattle.ip_wire.specs.declared.IpAddress.{IpAddress}
use Rattle.ip_wire.specs.declared.IpAddress.TheVariants.{Ipv4}
use Rattle.ip_wire.specs.declared.IpCidr.{IpCidr}
use Rattle.ip_wire.specs.declared.IpCidr.TheVariants as cidr

-- ---- answers

-- one more than the index of the block that is chosen for an address; 0 if no block contains it
abbrev pub IsAnswer : List IpCidr → IpAddress → ℕ → Type 0
IsAnswer blocks addr answer = ((answer ≡ 0) × All (λ block. ¬ IsIn block addr) blocks) ⊎ ((i : ℕ) × (answer ≡ i + 1) × IsChosenAt blocks addr i)

-- the number is the answer for each IPv4 address whose number has this property
abbrev pub Answers : List IpCidr → (ℕ → Type 0) → ℕ → Type 0
Answers blocks has answer = (bytes : List ℕ) → IsByteArray 4 bytes → has (number_of bytes) → IsAnswer blocks (Ipv4 bytes) answer

-- ---- ranges: the first address and the answer of each, 32 bits each

-- the range at index k of a list; past its end one that begins after each address
abbrev pub range_at : List ℕ → ℕ → ℕ
range_at ranges k = slice_index_or ranges k (2 ^ 64)

-- the number of the first address of a range
abbrev pub start_of : ℕ → ℕ
start_of range = range / 2 ^ 32

-- the answer of a range
abbrev pub answer_of : ℕ → ℕ
answer_of range = range % 2 ^ 32

-- the number of an address in the range at index k: the next range begins after it
abbrev pub IsInRange : List ℕ → ℕ → ℕ → Type 0
IsInRange ranges k addr = (start_of (range_at ranges k) ≤ addr) × (addr < start_of (range_at ranges (k + 1)))

-- each range has its answer
abbrev pub AreRanges : List IpCidr → List ℕ → Type 0
AreRanges blocks ranges = (k : ℕ) → k < length ranges → Answers blocks (IsInRange ranges k) (answer_of (range_at ranges k))

-- ---- parts: two entries of 32 bits in a cell

-- the entry at index i: the low half of a cell, then its high half
abbrev pub half_at : List ℕ → ℕ → ℕ
half_at cells i = slice_index_or cells (i / 2) 0 / 2 ^ (32 * (i % 2)) % 2 ^ 32

-- the number of an address in the part at index p of `count` equal ones
abbrev pub IsInPart : ℕ → ℕ → ℕ → Type 0
IsInPart count p addr = addr * count / 2 ^ 32 ≡ p

-- an entry from 2^31 on is the answer for its part; a smaller one only helps the search
abbrev pub AreParts : List IpCidr → List ℕ → Type 0
AreParts blocks cells = (p : ℕ) → p < 2 * length cells → 2 ^ 31 ≤ half_at cells p
    → Answers blocks (IsInPart (2 * length cells) p) (half_at cells p - 2 ^ 31)

-- the part at index p of `count` lies within the range at index k
pub record IsWithinRange (ranges : List ℕ) (count p k : ℕ) : Type 0 where
  pub listed : k < length ranges
  pub low : start_of (range_at ranges k) * count ≤ p * 2 ^ 32
  pub high : (p + 1) * 2 ^ 32 ≤ start_of (range_at ranges (k + 1)) * count

-- an entry from 2^31 on is the answer of a range that the part lies within
abbrev pub IsEntry : List ℕ → ℕ → ℕ → ℕ → Type 0
IsEntry ranges count p entry = 2 ^ 31 ≤ entry → (k : ℕ) × IsWithinRange ranges count p k × (entry ≡ 2 ^ 31 + answer_of (range_at ranges k))

-- ---- hints: two of 32 bits in a cell

-- each hint is the index of a range, of which there are so many
abbrev pub AreHints : ℕ → List ℕ → Type 0
AreHints count cells = (i : ℕ) → i < 2 * length cells → half_at cells i < count

-- ---- where blocks begin and end

-- the number is not within the part at index p of `count`: it is where the part begins or before, or where it ends or after
abbrev pub IsBeside : ℕ → ℕ → ℕ → Type 0
IsBeside count p number = (number * count ≤ p * 2 ^ 32) ⊎ ((p + 1) * 2 ^ 32 ≤ number * count)

-- the first address of a block and the one after its last, which is 0 after the last of all, are not within the part; an
-- IPv6 block is in no part
abbrev pub Spares : ℕ → ℕ → IpCidr → Type 0
Spares count p (cidr.Ipv4 block) =
    let len = 2 ^ (32 - block.prefix_len) in
    let first = number_of block.address / len * len in
    IsBeside count p first × IsBeside count p ((first + len) % 2 ^ 32)
Spares count p (cidr.Ipv6 block) = ⊤

-- no block begins or ends within the part
abbrev pub IsUndivided : List IpCidr → ℕ → ℕ → Type 0
IsUndivided blocks count p = (i : ℕ) → i < length blocks → Spares count p (block_at blocks i)

-- each part in which no block begins or ends has its answer as its entry
abbrev pub AreFilled : List IpCidr → List ℕ → Type 0
AreFilled blocks cells = (p : ℕ) → p < 2 * length cells → IsUndivided blocks (2 * length cells) p → 2 ^ 31 ≤ half_at cells p

-- no range begins within the part, and each answer is less than 2^31
abbrev pub IsClear : List ℕ → ℕ → ℕ → Type 0
IsClear ranges count p = (k : ℕ) → k < length ranges → IsBeside count p (start_of (range_at ranges k)) × (answer_of (range_at ranges k) < 2 ^ 31)

-- ---- where ranges begin

-- a range begins with this number
abbrev pub IsStart : List ℕ → ℕ → Type 0
IsStart ranges addr = (k : ℕ) × (k < length ranges) × (start_of (range_at ranges k) ≡ addr)

-- a range begins where the IPv4 block of a node begins, and one after its end; both are numbers of 32 bits
abbrev pub IsBounded : List ℕ → Node → Type 0
IsBounded ranges node = node.version ≡ 4 → IsStart ranges (node.high / 2 ^ 32) × IsStart ranges ((node.high + 2 ^ (64 - node.prefix_len)) % 2 ^ 64 / 2 ^ 32)

-- the IPv4 block of a node neither begins nor ends within the part; both are numbers of 32 bits
abbrev pub SparesNode : ℕ → ℕ → Node → Type 0
SparesNode count p node = node.version ≡ 4 → IsBeside count p (node.high / 2 ^ 32) × IsBeside count p ((node.high + 2 ^ (64 - node.prefix_len)) % 2 ^ 64 / 2 ^ 32)

-- ---- the table

-- the cells with the entries of the parts, in a table of n blocks
abbrev pub entries_in : ℕ → List ℕ → List ℕ
entries_in n cells = take (2 * (n + 1)) cells

-- the cells with hints, in a table of n blocks
abbrev pub hints_in : ℕ → List ℕ → List ℕ
hints_in n cells = take (n + 1) (drop (2 * (n + 1)) cells)

-- the cells with ranges, in a table of n blocks
abbrev pub ranges_in : ℕ → List ℕ → List ℕ
ranges_in n cells = take (2 * (n + 1)) (drop (n + 1) (drop (2 * (n + 1)) cells))

-- there are as many cells as the table of these blocks has, or more
abbrev pub AreEnough : List IpCidr → List ℕ → Type 0
AreEnough blocks cells = 5 * (length blocks + 1) ≤ length cells

-- The cells begin with the table of these blocks. That of n blocks has 2n + 2 entries of parts, then n + 1 cells of hints, and
-- 2n + 2 ranges. Fewer cells, or none, say nothing.
pub record IsTable (blocks : List IpCidr) (cells : List ℕ) : Type 0 where
  pub parts : AreEnough blocks cells → AreParts blocks (entries_in (length blocks) cells)
  pub filled : AreEnough blocks cells → AreFilled blocks (entries_in (length blocks) cells)
  pub ranges : AreEnough blocks cells → AreRanges blocks (ranges_in (length blocks) cells)

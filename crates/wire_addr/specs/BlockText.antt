-- The texts that parse as CIDR blocks (RFC 4632, section 3.1; RFC 4291, section 2.3).
-- Pinned by: `BlockWorked`, `calls/cidr4`, `calls/cidr6`, `calls/cidr`
use Rattle.std.specs.Prelude.{ℕ, List}
use Rattle.wire_addr.specs.Read.{ReadsIpv4, ReadsIpv6}
use Rattle.wire_addr.specs.Block.{Block}
use Rattle.wire_addr.specs.Printed.{slash}
use Rattle.wire_addr.specs.Ending.{EndsInNumber}

-- The text of a CIDR block: an address, a slash and a prefix length of at most `places` digits and at most `most`.
-- The address keeps its bits after the prefix (RFC 4632, section 3.1).
pub record IsBlockText (ReadsAddress : List ℕ → List ℕ → Type 0) (places most : ℕ) (text : List ℕ) (block : Block) : Type 0 where
  pub address_text : List ℕ
  pub address : ReadsAddress address_text block.address
  pub prefix_len : EndsInNumber slash places most text address_text block.prefix_len

-- the text parses as this block of IPv4 addresses (RFC 4632, section 3.1)
abbrev pub ReadsIpv4Block : List ℕ → Block → Type 0
ReadsIpv4Block text block = IsBlockText ReadsIpv4 2 32 text block

-- the text parses as this block of IPv6 addresses (RFC 4632, section 3.1)
abbrev pub ReadsIpv6Block : List ℕ → Block → Type 0
ReadsIpv6Block text block = IsBlockText ReadsIpv6 3 128 text block

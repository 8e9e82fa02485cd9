-- Sums of joined bytes, and of a packet after its pseudo-header.
use Rattle.std.proofs.Common.{◌≡◌, ℕ, ◌+◌, ◌*◌, ◌/◌, ◌%◌, ◌<◌, List, [], ◌∷◌, ◌++◌, length, sum, sym, ◌∙◌, ap, arith, length-append}
use Rattle.byteorder.specs.Endian.{big_bytes}
use Rattle.wire_checksum.specs.PseudoHeader.{pseudo_header_bytes, with_pseudo_header}
use Rattle.wire_checksum.specs.WordSum.{residue, sum_of, sum_of_bytes, words}
use Rattle.wire_checksum.proofs.Residues.{residue-add, residue-join, residue-same}
use Rattle.wire_checksum.proofs.WordLists.{sum-words-append}
use Rattle.wire_addr.specs.IpAddress.{address_bytes}
use Rattle.wire_addr.specs.Protocol.{number_of}
use Rattle.wire_addr.specs.declared.ip_address.IpAddress.{IpAddress}
use Rattle.wire_addr.specs.declared.ip_protocol.IpProtocol.{IpProtocol}
use Rattle.std.proofs.lemmas.Grind.{common_steps}
use Rattle.std.proofs.lemmas.Bool.Decides.{nat_tests}

-- ---- the total of a packet

-- what a pseudo-header adds: its addresses, the protocol number and the length
abbrev pub pseudo_header_total : IpAddress → IpAddress → IpProtocol → ℕ → ℕ
pseudo_header_total src dst protocol len = sum (words (address_bytes src)) + sum (words (address_bytes dst)) + (number_of protocol + len % 65536)

sum-words-end : (number len : ℕ) → sum (words (0 ∷ number ∷ big_bytes 2 len)) ≡ number + len % 65536
unfolding words
sum-words-end number len = omega arith

-- the words of a packet after its pseudo-header add up to those of its parts
pub sum-with_pseudo_header : (src dst : IpAddress) (protocol : IpProtocol) (packet : List ℕ) → length (address_bytes src) % 2 ≡ 0 → length (address_bytes dst) % 2 ≡ 0
    → sum (words (with_pseudo_header src dst protocol packet)) ≡ pseudo_header_total src dst protocol (length packet) + sum (words packet)
sum-with_pseudo_header src dst protocol packet s d = grind (arith, common_steps, nat_tests, length-append, sum-words-append, sum-words-end)

-- ---- sums, and totals of which they are the residues

-- the sum of joined bytes is the sum of their sums, if the first part has an even length
pub sum_joins_words : (a b : List ℕ) → length a % 2 ≡ 0 → sum_of_bytes (a ++ b) ≡ sum_of (sum_of_bytes a ∷ sum_of_bytes b ∷ [])
sum_joins_words a b even = ap residue (sum-words-append a b even) ∙ residue-join (sum (words a)) (sum (words b)) ∙ ap residue (omega arith)

-- a word, taken low byte first, in a total
residue-word : (w : ℕ) → w < 65536 → residue (256 * (w % 256 * 256 + w / 256 % 256)) ≡ residue w
residue-word w small = residue-same (256 * (w % 256 * 256 + w / 256 % 256)) w 0 (w % 256) (omega arith) (λ z. omega arith) (λ z. omega arith)

-- the total of joined bytes from those of the parts
pub total-joins : (a b : List ℕ) (s t : ℕ) → length a % 2 ≡ 0 → residue (256 * s) ≡ sum_of_bytes a → residue (256 * t) ≡ sum_of_bytes b
    → residue (256 * (s + t)) ≡ sum_of_bytes (a ++ b)
total-joins a b s t even p q =
    let both : 256 * (s + t) ≡ 256 * s + 256 * t = omega arith in
    ap residue both ∙ residue-add (256 * s) (sum (words a)) (256 * t) (sum (words b)) p q ∙ ap residue (sym (sum-words-append a b even))

-- the total of a pseudo header from those of its addresses
pub total-pseudo_header : (src dst : List ℕ) (protocol : IpProtocol) (len s t number low : ℕ) → length src % 2 ≡ 0 → length dst % 2 ≡ 0
    → number ≡ number_of protocol → number < 256 → low ≡ len % 65536 → residue (256 * s) ≡ sum_of_bytes src → residue (256 * t) ≡ sum_of_bytes dst
    → residue (256 * (s + t + ((number % 256 * 256 + number / 256 % 256) + (low % 256 * 256 + low / 256 % 256)))) ≡ sum_of_bytes (pseudo_header_bytes src dst protocol len)
unfolding words
total-pseudo_header src dst protocol len s t number low even_src even_dst n byte l p q =
    let tail = 0 ∷ number_of protocol ∷ len / 256 % 256 ∷ len % 256 ∷ [] in
    let words_of_tail : sum (words tail) ≡ number + low = omega (arith, n, l) in
    let last : residue (256 * ((number % 256 * 256 + number / 256 % 256) + (low % 256 * 256 + low / 256 % 256))) ≡ sum_of_bytes tail =
    ap residue (omega arith) ∙ residue-add (256 * (number % 256 * 256 + number / 256 % 256)) number (256 * (low % 256 * 256 + low / 256 % 256)) low
    (residue-word number (omega arith)) (residue-word low (omega (arith, l))) ∙ ap residue (sym words_of_tail)
    in
    let even : length (src ++ dst) % 2 ≡ 0 = simp length-append (omega arith) in
    total-joins (src ++ dst) tail (s + t) ((number % 256 * 256 + number / 256 % 256) + (low % 256 * 256 + low / 256 % 256)) even (total-joins src dst s t even_src p q) last

-- of a length only the low 16 bits count
pseudo_header-low : (src dst : List ℕ) (protocol : IpProtocol) (len : ℕ) → pseudo_header_bytes src dst protocol (len % 65536) ≡ pseudo_header_bytes src dst protocol len
pseudo_header-low src dst protocol len = grind arith

-- the total of a packet from that of its pseudo header and its own
pub total_with_pseudo_header : (src dst : IpAddress) (protocol : IpProtocol) (packet : List ℕ) (s t : ℕ) → length (address_bytes src) % 2 ≡ 0 → length (address_bytes dst) % 2 ≡ 0
    → residue (256 * s) ≡ sum_of_bytes (pseudo_header_bytes (address_bytes src) (address_bytes dst) protocol (length packet % 65536)) → residue (256 * t) ≡ sum_of_bytes packet
    → residue (256 * (s + t)) ≡ sum_of_bytes (with_pseudo_header src dst protocol packet)
total_with_pseudo_header src dst protocol packet s t even_src even_dst p q = grind (arith, common_steps, nat_tests, length-append, total-joins, pseudo_header-low)

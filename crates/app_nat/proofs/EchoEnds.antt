-- An ICMP echo message with another identifier and a new checksum.
use Rattle.std.proofs.Common.{ℕ, ◌≡◌, ◌∙◌, ◌+◌, ◌-◌, ◌/◌, ◌%◌, ◌<◌, ◌≤◌, List, ◌∷◌, drop, length, slice_index, sum, refl, sym, ap, subst, arith}
use Rattle.ip_wire.proofs.Cells.{cells-drop, word_high, word_low}
use Rattle.ip_wire.proofs.Residues.{residue-complement}
use Rattle.ip_wire.proofs.Spelled.{AreBytes}
use Rattle.ip_wire.specs.Field.{field, with_field, word_at}
use Rattle.ip_wire.specs.WordSum.{residue, sum_of_bytes, words}
use Rattle.wire_icmp.proofs.WordLists.{sum-words-cons}
use Rattle.app_nat.proofs.Words.{high-spelled, low-spelled, word}
use Rattle.app_nat.specs.Nat.{HasUsualSum, with_echo_ident}

-- ---- the bytes

-- the type, the code, the checksum, the identifier and the rest
abbrev message : ℕ → ℕ → ℕ → ℕ → List ℕ → List ℕ
message type code s ident rest = type ∷ code ∷ word s (word ident rest)

message-of : (l : List ℕ) → AreBytes l → 8 ≤ length l
    → l ≡ message (slice_index l 0) (slice_index l 1) (field l 16 16) (field l 32 16) (drop 6 l)
message-of l are room =
    let c = slice_index l 2 in
    let d = slice_index l 3 in
    let e = slice_index l 4 in
    let f = slice_index l 5 in
    let P : List ℕ → Type 0 = λ m. m ≡ slice_index m 0 ∷ slice_index m 1 ∷ slice_index m 2 ∷ slice_index m 3 ∷ slice_index m 4 ∷ slice_index m 5 ∷ drop 6 m in
    let whole : P l = subst P (sym (cells-drop 8 l room)) refl in
    whole
    ∙ (λ i. slice_index l 0 ∷ slice_index l 1 ∷ high-spelled c d (are 2) (are 3) i ∷ low-spelled c d (are 2) (are 3) i
    ∷ high-spelled e f (are 4) (are 5) i ∷ low-spelled e f (are 4) (are 5) i ∷ drop 6 l)

put-sum : (type code s ident x : ℕ) (rest : List ℕ) → with_field (message type code s ident rest) 16 16 x ≡ message type code x ident rest
put-sum type code s ident x rest =
    let n = word_at (message type code s ident rest) 16 16 in
    λ i. type ∷ code ∷ word_high n x i ∷ word_low n x i ∷ word ident rest

put-ident : (type code s ident x : ℕ) (rest : List ℕ) → with_field (message type code s ident rest) 32 16 x ≡ message type code s x rest
put-ident type code s ident x rest =
    let n = word_at (message type code s ident rest) 32 16 in
    λ i. type ∷ code ∷ word s (word_high n x i ∷ word_low n x i ∷ rest)

-- ---- a computed checksum

-- the checksum that a sender computes
abbrev computed : ℕ → ℕ → ℕ → List ℕ → ℕ
computed type code ident rest = 65535 - sum_of_bytes (message type code 0 ident rest)

-- the bytes with a computed checksum
abbrev summed : List ℕ → List ℕ
summed l = let zeroed = with_field l 16 16 0 in with_field zeroed 16 16 (65535 - sum_of_bytes zeroed)

summed-message : (type code s ident : ℕ) (rest : List ℕ) → summed (message type code s ident rest) ≡ message type code (computed type code ident rest) ident rest
summed-message type code s ident rest =
    ap (λ (l : List ℕ). with_field l 16 16 (65535 - sum_of_bytes l)) (put-sum type code s ident 0 rest)
    ∙ put-sum type code 0 ident (computed type code ident rest) rest

echo-ended : (addr : List ℕ) (type code s ident x : ℕ) (rest : List ℕ)
    → with_echo_ident addr x (message type code s ident rest) ≡ message type code (computed type code x rest) x rest
echo-ended addr type code s ident x rest = ap summed (put-ident type code s ident x rest) ∙ summed-message type code s x rest

-- the sum of all words is that of the others, and the checksum
sum-of-message : (type code s ident : ℕ) (rest : List ℕ) → s < 65536
    → sum (words (message type code s ident rest)) ≡ sum (words (message type code 0 ident rest)) + s
sum-of-message type code s ident rest fits =
    let tail = word ident rest in
    omega (arith, fits, sum-words-cons type code (word s tail), sum-words-cons (s / 256 % 256) (s % 256) tail, sum-words-cons type code (word 0 tail), sum-words-cons 0 0 tail)

-- a computed checksum is valid
verifies-computed : (type code ident : ℕ) (rest : List ℕ) → sum_of_bytes (message type code (computed type code ident rest) ident rest) ≡ 65535
verifies-computed type code ident rest =
    let total = sum (words (message type code 0 ident rest)) in
    ap residue (sum-of-message type code (computed type code ident rest) ident rest (omega arith)) ∙ residue-complement total

-- ---- an echo message

-- What an identifier leaves: the type, the code, the lower half of the second word and the data. The checksum is valid.
pub record IsIdentified (old new : List ℕ) (ident : ℕ) : Type 0 where
  pub long : length new ≡ length old
  pub type : field new 0 8 ≡ field old 0 8
  pub code : field new 8 8 ≡ field old 8 8
  pub upper : field new 32 32 / 65536 ≡ ident
  pub lower : field new 32 32 % 65536 ≡ field old 32 32 % 65536
  pub payload : drop 8 new ≡ drop 8 old
  pub sum : sum_of_bytes new ≡ 65535

identified-at : (type code s ident x a b t : ℕ) (rest : List ℕ) → x < 65536 → a < 256 → b < 256 → sum_of_bytes (message type code t x (a ∷ b ∷ rest)) ≡ 65535
    → IsIdentified (message type code s ident (a ∷ b ∷ rest)) (message type code t x (a ∷ b ∷ rest)) x
identified-at type code s ident x a b t rest fits af bf valid = record {
  long = refl;
  type = refl;
  code = refl;
  upper = omega (arith, fits, af, bf);
  lower = omega (arith, fits, af, bf);
  payload = refl;
  sum = valid;
}

pub echo-identified : (l addr : List ℕ) (x : ℕ) → AreBytes l → 8 ≤ length l → x < 65536 → IsIdentified l (with_echo_ident addr x l) x
echo-identified l addr x are room fits =
    let type = slice_index l 0 in
    let code = slice_index l 1 in
    let a = slice_index l 6 in
    let b = slice_index l 7 in
    let s = field l 16 16 in
    let ident = field l 32 16 in
    let two : drop 6 l ≡ a ∷ b ∷ drop 8 l = subst (λ (m : List ℕ). drop 6 m ≡ slice_index m 6 ∷ slice_index m 7 ∷ drop 8 m) (sym (cells-drop 8 l room)) refl in
    let is : l ≡ message type code s ident (a ∷ b ∷ drop 8 l) = message-of l are room ∙ ap (message type code s ident) two in
    subst (λ (m : List ℕ). IsIdentified m (with_echo_ident addr x m) x) (sym is)
    (subst (λ (m : List ℕ). IsIdentified (message type code s ident (a ∷ b ∷ drop 8 l)) m x) (sym (echo-ended addr type code s ident x (a ∷ b ∷ drop 8 l)))
    (identified-at type code s ident x a b (computed type code x (a ∷ b ∷ drop 8 l)) (drop 8 l) fits (are 6) (are 7) (verifies-computed type code x (a ∷ b ∷ drop 8 l))))

-- an echo message keeps its length
pub echo-len : (addr : List ℕ) (x : ℕ) (l : List ℕ) → 8 ≤ length l → length (with_echo_ident addr x l) ≡ length l
echo-len addr x l room = subst (λ (m : List ℕ). length (with_echo_ident addr x m) ≡ length m) (sym (cells-drop 8 l room)) refl

-- the identifier that it had gives the message again, if its checksum was computed
pub echo-back : (l old new : List ℕ) (x : ℕ) → AreBytes l → 8 ≤ length l → HasUsualSum l
    → with_echo_ident old (field l 32 16) (with_echo_ident new x l) ≡ l
echo-back l old new x are room usual =
    let type = slice_index l 0 in
    let code = slice_index l 1 in
    let s = field l 16 16 in
    let ident = field l 32 16 in
    let rest = drop 6 l in
    let is = message-of l are room in
    ap (λ (m : List ℕ). with_echo_ident old ident (with_echo_ident new x m)) is
    ∙ ap (with_echo_ident old ident) (echo-ended new type code s ident x rest)
    ∙ echo-ended old type code (computed type code x rest) x ident rest
    ∙ sym (summed-message type code s ident rest)
    ∙ ap summed (sym is) ∙ usual

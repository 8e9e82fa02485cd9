-- The first twelve bytes of an address, by the big-endian number of all of them.
use Rattle.std.proofs.Common.{◌≡◌, ℕ, ◌/◌, ◌^◌, ◌<◌, ◌==◌, List, [], ◌∷◌, Decides, take, subst, sym, ◌∙◌, ap, arith}
use Rattle.std.proofs.lemmas.Bool.Decides.{Decides-eqb, Decides-like}
use Rattle.std.proofs.NetLemmas.Arrays.{sixteen_items}
use Rattle.wire_addr.specs.Bytes.{IsByteArray, mapped_prefix}
use Rattle.wire_addr.specs.Prefix.{number_of}

-- sixteen bytes, listed
module _ (a b c d e f g h i j k l m n o p : ℕ) where
  abbrev sixteen : List ℕ
  sixteen = a ∷ b ∷ c ∷ d ∷ e ∷ f ∷ g ∷ h ∷ i ∷ j ∷ k ∷ l ∷ m ∷ n ∷ o ∷ p ∷ []

  mapped_from_number : IsByteArray 16 sixteen → number_of sixteen / 2 ^ 32 ≡ 0xffff → take 12 sixteen ≡ mapped_prefix
  mapped_from_number are is =
      let (small_l, small_m, small_n, small_o, small_p) : (l < 256) × (m < 256) × (n < 256) × (o < 256) × (p < 256) = (are.1 11, are.1 12, are.1 13, are.1 14, are.1 15) in
      let small_k : k < 256 = are.1 10 in
      let (ea, eb, ec, ed, ee) : (a ≡ 0) × (b ≡ 0) × (c ≡ 0) × (d ≡ 0) × (e ≡ 0) = (omega arith, omega arith, omega arith, omega arith, omega arith) in
      let (ef, eg, eh, ei, ej) : (f ≡ 0) × (g ≡ 0) × (h ≡ 0) × (i ≡ 0) × (j ≡ 0) = (omega arith, omega arith, omega arith, omega arith, omega arith) in
      let ek : k ≡ 255 = omega arith in
      let el : l ≡ 255 = omega arith in
      λ t. ea t ∷ eb t ∷ ec t ∷ ed t ∷ ee t ∷ ef t ∷ eg t ∷ eh t ∷ ei t ∷ ej t ∷ ek t ∷ el t ∷ []

  number_from_mapped : IsByteArray 16 sixteen → take 12 sixteen ≡ mapped_prefix → number_of sixteen / 2 ^ 32 ≡ 0xffff
  number_from_mapped are is =
      let (small_m, small_n, small_o, small_p) : (m < 256) × (n < 256) × (o < 256) × (p < 256) = (are.1 12, are.1 13, are.1 14, are.1 15) in
      let (ea, eb, ec, ed, ee) : (a ≡ 0) × (b ≡ 0) × (c ≡ 0) × (d ≡ 0) × (e ≡ 0) = (cc, cc, cc, cc, cc) in
      let (ef, eg, eh, ei, ej) : (f ≡ 0) × (g ≡ 0) × (h ≡ 0) × (i ≡ 0) × (j ≡ 0) = (cc, cc, cc, cc, cc) in
      let ek : k ≡ 255 = cc in
      let el : l ≡ 255 = cc in
      omega arith

-- the number tells whether the first twelve bytes are those before an IPv4 address
pub Decides_mapped : (octets : List ℕ) (bits : ℕ) → IsByteArray 16 octets → bits ≡ number_of octets → Decides (bits / 2 ^ 32 == 0xffff) (take 12 octets ≡ mapped_prefix)
Decides_mapped octets bits are is =
    let items = sym (sixteen_items octets are.0) in
    let From : List ℕ → Type 0 = λ xs. IsByteArray 16 xs → number_of xs / 2 ^ 32 ≡ 0xffff → take 12 xs ≡ mapped_prefix in
    let To : List ℕ → Type 0 = λ xs. IsByteArray 16 xs → take 12 xs ≡ mapped_prefix → number_of xs / 2 ^ 32 ≡ 0xffff in
    let same : bits / 2 ^ 32 ≡ number_of octets / 2 ^ 32 = ap (λ n. n / 2 ^ 32) is in
    Decides-like (bits / 2 ^ 32 == 0xffff)
    (λ h. subst From items (mapped_from_number _ _ _ _ _ _ _ _ _ _ _ _ _ _ _ _) are (sym same ∙ h))
    (λ h. same ∙ subst To items (number_from_mapped _ _ _ _ _ _ _ _ _ _ _ _ _ _ _ _) are h)
    (Decides-eqb (bits / 2 ^ 32) 0xffff)

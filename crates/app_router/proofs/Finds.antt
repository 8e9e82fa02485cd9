-- The nodes whose blocks contain an address.
use Rattle.std.proofs.Common.{ℕ, ◌≡◌, ◌↔◌, ◌∙◌, ◌+◌, ◌-◌, ◌*◌, ◌/◌, ◌^◌, ◌<◌, ◌≤◌, ◌⊎◌, inl, inr, List, [], ◌∷◌, suc, length, get_or, refl, sym, ap, subst, arith, bit_and, eq-eqb}
use Rattle.std.proofs.lemmas.Bool.{cases_lt}
use Rattle.std.proofs.lemmas.Nat.{mul-add-lt, pow-add, shl-shr, shr-shr, shr_split, shl_below}
use Rattle.std.proofs.Math.Nat.{div-mul-le_self, mul_assoc}
use Rattle.ip_wire.proofs.Blocks.{member_test, number_under_mask, numbers_from_agree}
use Rattle.app_router.proofs.Places.{prefix_of, same_prefix, shorter_prefix}
use Rattle.app_router.specs.Index.{IsBlock, first_bits, node_of, node_with, place, rank, target_of, version_number}
use Rattle.app_router.specs.declared.index.Node.{Node}
use Rattle.ip_wire.specs.IpAddress.{IsAddress}
use Rattle.ip_wire.specs.IpCidr.{IsIn, block_address, block_prefix_len}
use Rattle.ip_wire.specs.Bytes.{IsByteArray}
use Rattle.ip_wire.specs.Prefix.{AgreeFirst, number_of}
use Rattle.ip_wire.specs.declared.IpAddress.{IpAddress}
use Rattle.ip_wire.specs.declared.IpAddress.TheVariants as ip
use Rattle.ip_wire.specs.declared.IpCidr.{IpCidr}
use Rattle.ip_wire.specs.declared.IpCidr.TheVariants.{Ipv4, Ipv6}

-- the place of a node by its bits
place_with : (version bits len route : ℕ) → place (node_with version bits len route) ≡ version * 2 ^ 128 + bits
place_with version bits len route = ap (λ b. version * 2 ^ 128 + b) (shr_split bits 64)

-- ---- the first bits of an address

agree_from_numbers : (m n : ℕ) (xs ys : List ℕ) → IsByteArray m xs → IsByteArray m ys → n ≤ 8 * m
    → number_of xs / 2 ^ (8 * m - n) ≡ number_of ys / 2 ^ (8 * m - n) → AgreeFirst n xs ys
agree_from_numbers m n xs ys are_xs are_ys le same =
    let s = 8 * m - n in
    let mask = 2 ^ (8 * m) - 2 ^ s in
    let bound : s ≤ 8 * m = omega arith in
    let e : bit_and (number_of xs) mask ≡ bit_and (number_of ys) mask =
    number_under_mask m s xs are_xs bound ∙ ap (λ q. q * 2 ^ s) same ∙ sym (number_under_mask m s ys are_ys bound) in
    (member_test m n (number_of xs) (number_of ys) mask xs ys are_xs are_ys le refl refl refl).0 (eq-eqb _ _ e)

-- bytes agree in their first bits exactly if the prefixes of their numbers do
pub agrees : (m n : ℕ) (xs ys : List ℕ) → IsByteArray m xs → IsByteArray m ys → n ≤ 8 * m
    → AgreeFirst n xs ys ↔ (number_of xs / 2 ^ (8 * m - n) ≡ number_of ys / 2 ^ (8 * m - n))
agrees m n xs ys are_xs are_ys le =
    (numbers_from_agree m n (8 * m - n) xs ys are_xs are_ys (omega (arith, le)), agree_from_numbers m n xs ys are_xs are_ys le)

-- the prefix of an IPv4 address
pub raised : (x n : ℕ) → n ≤ 32 → x * 2 ^ 96 / 2 ^ (128 - n) ≡ x / 2 ^ (32 - n)
raised x n le =
    let e : 128 - n ≡ 96 + (32 - n) = omega (arith, le) in
    ap (λ z. x * 2 ^ 96 / 2 ^ z) e ∙ sym (shr-shr (x * 2 ^ 96) 96 (32 - n)) ∙ ap (λ x. x / 2 ^ (32 - n)) (shl-shr x 96)

-- a block contains an address exactly if both have the same version and prefix
pub is_in : (block : IpCidr) (addr : IpAddress) → IsBlock block → IsAddress addr
    → IsIn block addr ↔ ((version_number (block_address block) ≡ version_number addr)
    × (first_bits (block_address block) / 2 ^ (128 - block_prefix_len block) ≡ first_bits addr / 2 ^ (128 - block_prefix_len block)))
is_in (Ipv4 block) (ip.Ipv4 octets) (are, le) is =
    let told = agrees 4 block.prefix_len block.address octets are is le in
    let up = raised (number_of block.address) block.prefix_len le in
    let to = raised (number_of octets) block.prefix_len le in
    (λ member. (refl, up ∙ told.0 member ∙ sym to), λ same. told.1 (sym up ∙ same.1 ∙ to))
is_in (Ipv4 block) (ip.Ipv6 octets) valid is = (λ member. absurd member, λ same. absurd (let e = same.0 in omega (arith, e)))
is_in (Ipv6 block) (ip.Ipv4 octets) valid is = (λ member. absurd member, λ same. absurd (let e = same.0 in omega (arith, e)))
is_in (Ipv6 block) (ip.Ipv6 octets) (are, le) is =
    let told = agrees 16 block.prefix_len block.address octets are is le in
    (λ member. (refl, told.0 member), λ same. told.1 same.1)

-- ---- the node of a block

number_below : (octets : List ℕ) → ((k : ℕ) → get_or octets k 0 < 2 ^ 8) → number_of octets < 2 ^ (8 * length octets)
number_below [] fits = omega arith
number_below (x ∷ octets) fits =
    let w = 2 ^ (8 * length octets) in
    let e : 8 * suc (length octets) ≡ 8 * length octets + 8 = omega arith in
    let power : 2 ^ (8 * suc (length octets)) ≡ w * 2 ^ 8 = ap (λ n. 2 ^ n) e ∙ pow-add 2 (8 * length octets) 8 in
    rw power (mul-add-lt x w (number_of octets) (2 ^ 8) (fits 0) (number_below octets (λ k. fits (suc k))))

pub number_of-lt : (m : ℕ) (octets : List ℕ) → IsByteArray m octets → number_of octets < 2 ^ (8 * m)
number_of-lt m octets are = subst (λ m. number_of octets < 2 ^ (8 * m)) are.0 (number_below octets are.1)

pub first_bits-lt : (addr : IpAddress) → IsAddress addr → first_bits addr < 2 ^ 128
first_bits-lt (ip.Ipv4 octets) is = shl_below (number_of octets) 32 96 (number_of-lt 4 octets is)
first_bits-lt (ip.Ipv6 octets) is = number_of-lt 16 octets is

prefix_len-le : (block : IpCidr) → IsBlock block → block_prefix_len block ≤ 128
prefix_len-le (Ipv4 block) valid = omega (arith, valid.1)
prefix_len-le (Ipv6 block) valid = valid.1

-- what the node of a block says of it
pub record IsNodeOf (block : IpCidr) (route : ℕ) (node : Node) : Type 0 where
  pub len : node.prefix_len ≡ block_prefix_len block
  pub len_fits : node.prefix_len ≤ 128
  pub route_is : node.route ≡ route
  pub leads : (addr : IpAddress) → IsAddress addr
      → IsIn block addr ↔ (place node / 2 ^ (128 - node.prefix_len) ≡ place (target_of addr) / 2 ^ (128 - node.prefix_len))
  pub aligned : place node / 2 ^ (128 - node.prefix_len) * 2 ^ (128 - node.prefix_len) ≡ place node

whole : (v f n : ℕ) → n ≤ 128 → (v * 2 ^ 128 + f / 2 ^ (128 - n) * 2 ^ (128 - n)) / 2 ^ (128 - n) * 2 ^ (128 - n) ≡ v * 2 ^ 128 + f / 2 ^ (128 - n) * 2 ^ (128 - n)
whole v f n le =
    let z = 128 - n in
    let e : n + z ≡ 128 = omega (arith, le) in
    let P : ℕ → Type 0 = λ k. (v * 2 ^ k + f / 2 ^ z * 2 ^ z) / 2 ^ z * 2 ^ z ≡ v * 2 ^ k + f / 2 ^ z * 2 ^ z in
    let q : (v * 2 ^ (n + z) + f / 2 ^ z * 2 ^ z) / 2 ^ z ≡ v * 2 ^ n + f / 2 ^ z = prefix_of n z v (f / 2 ^ z * 2 ^ z) ∙ ap (λ x. v * 2 ^ n + x) (shl-shr (f / 2 ^ z) z) in
    let r : v * 2 ^ (n + z) ≡ v * 2 ^ n * 2 ^ z = ap (λ p. v * p) (pow-add 2 n z) ∙ sym (mul_assoc v (2 ^ n) (2 ^ z)) in
    let product : (v * 2 ^ n + f / 2 ^ z) * 2 ^ z ≡ v * 2 ^ n * 2 ^ z + f / 2 ^ z * 2 ^ z = omega arith in
    subst P e (ap (λ x. x * 2 ^ z) q ∙ product ∙ ap (λ x. x + f / 2 ^ z * 2 ^ z) (sym r))

same_places : (v w f x n : ℕ) → n ≤ 128 → f < 2 ^ 128 → x < 2 ^ 128
    → ((v ≡ w) × (f / 2 ^ (128 - n) ≡ x / 2 ^ (128 - n)))
    ↔ ((v * 2 ^ 128 + f / 2 ^ (128 - n) * 2 ^ (128 - n)) / 2 ^ (128 - n) ≡ (w * 2 ^ 128 + x) / 2 ^ (128 - n))
same_places v w f x n le f_fits x_fits =
    let z = 128 - n in
    let m = f / 2 ^ z * 2 ^ z in
    let e : n + z ≡ 128 = omega (arith, le) in
    let m_le : m ≤ f = div-mul-le_self f (2 ^ z) in
    let m_fits : m < 2 ^ 128 = omega (arith, m_le, f_fits) in
    let P : ℕ → Type 0 = λ k. m < 2 ^ k → x < 2 ^ k → ((v ≡ w) × (m / 2 ^ z ≡ x / 2 ^ z)) ↔ ((v * 2 ^ k + m) / 2 ^ z ≡ (w * 2 ^ k + x) / 2 ^ z) in
    let told = subst P e (same_prefix n z v w m x) m_fits x_fits in
    let back : m / 2 ^ z ≡ f / 2 ^ z = shl-shr (f / 2 ^ z) z in
    (λ (high, low). told.0 (high, back ∙ low), λ same. ((told.1 same).0, sym back ∙ (told.1 same).1))

pub node_of-IsNodeOf : (block : IpCidr) (route : ℕ) → IsBlock block → IsNodeOf block route (node_of block route)
node_of-IsNodeOf block route valid =
    let n = block_prefix_len block in
    let z = 128 - n in
    let v = version_number (block_address block) in
    let f = first_bits (block_address block) in
    let le : n ≤ 128 = prefix_len-le block valid in
    let here : place (node_of block route) ≡ v * 2 ^ 128 + f / 2 ^ z * 2 ^ z = place_with v (f / 2 ^ z * 2 ^ z) n route in
    record {
      len = refl;
      len_fits = le;
      route_is = refl;
      leads = λ addr is.
          let there : place (target_of addr) ≡ version_number addr * 2 ^ 128 + first_bits addr = place_with (version_number addr) (first_bits addr) 129 0 in
          let told = is_in block addr valid is in
          let same = same_places v (version_number addr) f (first_bits addr) n le (first_bits-lt (block_address block) valid.0) (first_bits-lt addr is) in (
            λ member. ap (λ p. p / 2 ^ z) here ∙ same.0 (told.0 member) ∙ ap (λ p. p / 2 ^ z) (sym there),
            λ e. told.1 (same.1 (ap (λ p. p / 2 ^ z) (sym here) ∙ e ∙ ap (λ p. p / 2 ^ z) there)),
          );
      aligned = ap (λ p. p / 2 ^ z * 2 ^ z) here ∙ whole v f n le ∙ sym here;
    }

-- a block whose first address is after an address does not contain it
pub beyond : (block : IpCidr) (route : ℕ) (node : Node) (addr : IpAddress) → IsNodeOf block route node → IsAddress addr → place (target_of addr) < place node
    → ¬ IsIn block addr
beyond block route node addr of is less member =
    let d = 2 ^ (128 - node.prefix_len) in
    let same = (of.leads addr is).0 member in
    let below : place (target_of addr) / d * d ≤ place (target_of addr) = div-mul-le_self (place (target_of addr)) d in
    let e : place node / d * d ≡ place (target_of addr) / d * d = ap (λ q. q * d) same in
    omega (arith, of.aligned, e, below, less)

-- of two nodes in order whose blocks contain an address, the second has the longer prefix, or the same and an earlier route
pub better : (a b : Node) (x : ℕ) → a.route < 2 ^ 32 → b.route < 2 ^ 32 → rank a ≤ rank b
    → place a / 2 ^ (128 - a.prefix_len) ≡ x / 2 ^ (128 - a.prefix_len) → place b / 2 ^ (128 - b.prefix_len) ≡ x / 2 ^ (128 - b.prefix_len)
    → place b / 2 ^ (128 - b.prefix_len) * 2 ^ (128 - b.prefix_len) ≡ place b → a.prefix_len < 2 ^ 8 → b.prefix_len < 2 ^ 8
    → (a.prefix_len < b.prefix_len) ⊎ ((a.prefix_len ≡ b.prefix_len) × (b.route ≤ a.route))
better a b x a_route b_route le a_leads b_leads aligned a_len b_len =
    elim (cases_lt a.prefix_len b.prefix_len) [
      | inl less ↦ inl less
      | inr more ↦
          let d = 2 ^ (128 - b.prefix_len) in
          let shared : place a / d ≡ place b / d = shorter_prefix (128 - a.prefix_len) (128 - b.prefix_len) (place a) x (omega (arith, more)) a_leads ∙ sym b_leads in
          let low : place a / d * d ≤ place a = div-mul-le_self (place a) d in
          let e : place a / d * d ≡ place b = ap (λ q. q * d) shared ∙ aligned in
          let at : place b ≤ place a = omega (arith, low, e) in
          inr (omega (arith, at, le, a_len, b_len, more), omega (arith, at, le, a_len, b_len, more, a_route, b_route))
    ]

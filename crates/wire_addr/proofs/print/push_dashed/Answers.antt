use Rattle.std.proofs.Common.{ℕ, List, [], ◌<◌, ◌∷◌, ◌++◌, ◌∙◌, IsAscii, ap, sym, arith, rules}
use Rattle.std.proofs.lemmas.List.Elements.{All-from_recursion}
use Rattle.std.proofs.lemmas.Str.Ascii.{IsAscii-from_all}
use Rattle.wire_addr.specs.Printed.{dashed}
use Rattle.wire_addr.proofs.Eui64.{six_items}
use Rattle.wire_addr.proofs.print.push_dashed.Goals as goal

-- six pairs of ASCII bytes with dashes between them
pairs_ascii : (a a' b b' c c' d d' e e' f f' : ℕ) → (a < 128) × (a' < 128) → (b < 128) × (b' < 128) → (c < 128) × (c' < 128) → (d < 128) × (d' < 128) → (e < 128) × (e' < 128) → (f < 128) × (f' < 128)
    → IsAscii (a ∷ a' ∷ 45 ∷ b ∷ b' ∷ 45 ∷ c ∷ c' ∷ 45 ∷ d ∷ d' ∷ 45 ∷ e ∷ e' ∷ 45 ∷ f ∷ f' ∷ [])
pairs_ascii a a' b b' c c' d d' e e' f f' ha hb hc hd he hf =
    let dash_small : 45 < 128 = omega arith in
    let text : List ℕ = (a ∷ a' ∷ 45 ∷ b ∷ b' ∷ 45 ∷ c ∷ c' ∷ 45 ∷ d ∷ d' ∷ 45 ∷ e ∷ e' ∷ 45 ∷ f ∷ f' ∷ []) in
    IsAscii-from_all text (All-from_recursion (λ b. b < 128) text (ha.0, (ha.1, (dash_small, (hb.0, (hb.1, (dash_small, (hc.0, (hc.1, (dash_small, (hd.0, (hd.1, (dash_small, (he.0, (he.1, (dash_small, (hf.0, (hf.1, tt))))))))))))))))))

pub push_ascii-requires : goal.push_ascii-requires
push_ascii-requires g c =
    let ascii = pairs_ascii _ _ _ _ _ _ _ _ _ _ _ _ c.hex_pair-a.ensures.ascii c.hex_pair-b.ensures.ascii c.hex_pair-c.ensures.ascii c.hex_pair-d.ensures.ascii c.hex_pair-e.ensures.ascii c.hex_pair-f.ensures.ascii in
    (search rules, (ascii, search rules))

pub returns-clause-bytes : goal.returns-clause-bytes
returns-clause-bytes g c =
    let pairs = (rw (c.hex_pair-a.ensures.high, c.hex_pair-a.ensures.low, c.hex_pair-b.ensures.high, c.hex_pair-b.ensures.low, c.hex_pair-c.ensures.high, c.hex_pair-c.ensures.low, c.hex_pair-d.ensures.high, c.hex_pair-d.ensures.low, c.hex_pair-e.ensures.high, c.hex_pair-e.ensures.low, c.hex_pair-f.ensures.high, c.hex_pair-f.ensures.low) at c.push_ascii.ensures.bytes) in
    pairs ∙ ap (λ bytes. c.args.text.now.bytes ++ bytes) (sym (ap dashed (six_items c.args.octets (search rules))))

pub returns-clause-len : goal.returns-clause-len
returns-clause-len g c = c.push_ascii.ensures.len

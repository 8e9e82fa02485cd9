-- Two flows have the same key exactly if they are one flow.
use Rattle.std.proofs.Common.{◌≡◌, ◌↔◌, inl, inr, refl, sym, ap, ◌∙◌}
use Rattle.std.specs.Ordering.{ordering_reverse}
use Rattle.std.specs.declared.cmp.Ordering.{Ordering}
use Rattle.std.specs.declared.cmp.Ordering.TheVariants.{Less, Equal, Greater}
use Rattle.app_short.specs.Flow.{IsOneFlow, key_by, key_of, reversed}
use Rattle.app_short.specs.declared.flow_key.Flow.{Flow}
use Rattle.app_short.specs.declared.flow_key.FlowKey.{FlowKey}
use Rattle.ip_wire.specs.Endpoint.{endpoint_cmp}

same : (a b : Flow) → a.protocol ≡ b.protocol → a.src ≡ b.src → a.dst ≡ b.dst → a ≡ b
same a b protocol src dst = λ i. record { protocol = protocol i; src = src i; dst = dst i }

-- equal keys have equal fields
abbrev protocols : (k l : FlowKey) → k ≡ l → k.protocol ≡ l.protocol
protocols k l e = ap (λ (k : FlowKey). k.protocol) e

abbrev lows : (k l : FlowKey) → k ≡ l → k.low ≡ l.low
lows k l e = ap (λ (k : FlowKey). k.low) e

abbrev highs : (k l : FlowKey) → k ≡ l → k.high ≡ l.high
highs k l e = ap (λ (k : FlowKey). k.high) e

-- flows with equal keys are one flow
ends : (a b : Flow) (x y : Ordering) → key_by x a ≡ key_by y b → IsOneFlow a b
ends a b Greater Greater e = inl (same a b (protocols _ _ e) (highs _ _ e) (lows _ _ e))
ends a b Greater Less e = inr (same a (reversed b) (protocols _ _ e) (highs _ _ e) (lows _ _ e))
ends a b Greater Equal e = inr (same a (reversed b) (protocols _ _ e) (highs _ _ e) (lows _ _ e))
ends a b Less Greater e = inr (same a (reversed b) (protocols _ _ e) (lows _ _ e) (highs _ _ e))
ends a b Equal Greater e = inr (same a (reversed b) (protocols _ _ e) (lows _ _ e) (highs _ _ e))
ends a b x y e = inl (same a b (protocols _ _ e) (lows _ _ e) (highs _ _ e))

-- a flow and its reverse have the same key
turned : (a : Flow) (x y : Ordering) → x ≡ ordering_reverse y → (x ≡ Equal → a.src ≡ a.dst) → key_by x a ≡ key_by y (reversed a)
turned a Less Greater e equal = refl
turned a Greater Less e equal = refl
turned a Equal Equal e equal = let s = equal refl in λ i. record { protocol = a.protocol; low = s i; high = sym s i }
turned a x y e equal = absurd (cc)

pub tells : (a b : Flow) → endpoint_cmp a.src a.dst ≡ ordering_reverse (endpoint_cmp a.dst a.src) → (endpoint_cmp a.src a.dst ≡ Equal → a.src ≡ a.dst)
    → (key_of b ≡ key_of a) ↔ IsOneFlow b a
tells a b reverse equal = (
  λ e. ends b a (endpoint_cmp b.src b.dst) (endpoint_cmp a.src a.dst) e,
  λ one. elim one [
    | inl same ↦ ap key_of same
    | inr other ↦ ap key_of other ∙ sym (turned a (endpoint_cmp a.src a.dst) (endpoint_cmp a.dst a.src) reverse equal)
  ],
)

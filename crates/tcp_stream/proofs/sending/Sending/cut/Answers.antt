use Rattle.std.proofs.Common.{◌≡◌, inl, inr, sym, ◌∙◌, subst, arith, ◌+◌, ◌-◌, ◌≤◌, ◌++◌, ℕ, true, length, map, take, drop}
use Rattle.tcp_stream.specs.Endpoint.{Byte}
use Rattle.tcp_stream.specs.Network.{end_of}
use Rattle.tcp_stream.specs.Items.{syn_of}
use Rattle.tcp_stream.specs.Waits.{pending}
use Rattle.tcp_stream.proofs.Pending.{cut_items, syn_before, eq_test}
use Rattle.std.proofs.lemmas.Bool.{false≢true}
use Rattle.tcp_stream.proofs.sending.Sending.cut.Goals as goal
use Rattle.tcp_stream.proofs.sending.Sending.cut.Goals.{then-self-2, else-self-2, then-skip-n, else-skip-n, else-self-via-then-self+else-from-eq0, else-self-via-else-self}

pub returns-clause-items : goal.returns-clause-items
returns-clause-items c =
    let self = c.args.self.now in
    let b = c.args.ring.now in
    let at = c.wrapped-at.result in
    let n = c.min-n.result in
    let last = c.if-skip-n.result in
    let skip = c.args.from - c.syn_len.result in
    let size : at + n - at ≡ n = omega arith in
    let syn : length (syn_of self.has_syn) ≤ c.args.from = syn_before self.has_syn c.args.from (elim c.else-self.branch [
      | else-self-via-then-self+else-from-eq0 w ↦ inr w.if-from-eq0.false
      | else-self-via-else-self w ↦ inl w.if-self.false
    ]) in
    let from : length (syn_of self.has_syn) + skip ≡ c.args.from = omega (arith, c.syn_len.ensures) in
    let why : last ≡ true → (self.has_fin ≡ true) × (skip + n ≡ self.len) = λ is_last. elim c.if-skip-n.branch [
      | then-skip-n w ↦ (elim c.if-self-2.branch [ then-self-2 v ↦ (v.if-self-2.true, eq_test _ _ (sym v.value-is ∙ w.if-skip-n.true)) | else-self-2 v ↦ absurd (false≢true (sym v.if-self-2.false ∙ sym v.value-is ∙ w.if-skip-n.true)) ])
      | else-skip-n w ↦ absurd (false≢true (sym w.if-skip-n.false ∙ sym w.result-is ∙ is_last))
    ] in
    let all = cut_items self b skip at n last c.requires.start c.requires.len c.wrapped-at.ensures.inside c.wrapped-at.ensures.same (omega (arith, c.requires.from)) (omega (arith, c.min-n.ensures, c.min.ensures)) (omega (arith, c.min-n.ensures)) why in
    subst (λ (k : ℕ). map Byte (take k (drop at b)) ++ end_of last ≡ take (length (map Byte (take k (drop at b)) ++ end_of last)) (drop c.args.from (pending self b))) (sym size)
    (subst (λ (k : ℕ). map Byte (take n (drop at b)) ++ end_of last ≡ take (length (map Byte (take n (drop at b)) ++ end_of last)) (drop k (pending self b))) from all)

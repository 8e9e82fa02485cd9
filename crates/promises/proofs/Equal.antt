-- Comparisons of variants, of two fields, of options and of pairs, by those of their values.
use Rattle.std.proofs.Common.{Bool, true, false, Option, Some, None, refl, sym, ap, true≢false}
use Rattle.std.specs.Prelude.{◌&&◌, ⊤, is_some}
use Rattle.std.specs.Bool.{Decides}
use Rattle.std.specs.Option.{option_eq}
use Rattle.std.proofs.lemmas.Bool.Decides.{Decides-and}
use Rattle.ip_wire.specs.Equality.{IsEquality}

-- a variant without values, and itself
pub alike : Decides true ⊤
alike = (λ _. tt, λ _. refl)

-- two variants that differ
pub apart : Decides false ⊥
apart = (λ e. absurd (true≢false (sym e)), λ h. absurd h)

-- the comparisons of two fields
pub also : {P Q : Type 0} {x y : Bool} → Decides x P → Decides y Q → Decides (x && y) (P × Q)
also = Decides-and _ _

-- the value of an option, and `spare` at `None`
abbrev held : {T : Type 0} → T → Option T → T
held spare None = spare
held spare (Some x) = x

pub options : {T : Type 0} {eq : T → T → Bool} → IsEquality eq → IsEquality (option_eq eq)
options values None None = (λ _. refl, λ _. refl)
options values None (Some y) = (λ e. absurd (true≢false (sym e)), λ e. absurd (true≢false (sym (ap is_some e))))
options values (Some x) None = (λ e. absurd (true≢false (sym e)), λ e. absurd (true≢false (ap is_some e)))
options values (Some x) (Some y) = (λ e. ap Some ((values x y).0 e), λ e. (values x y).1 (ap (held x) e))

pub pairs : {A B : Type 0} {E : A → A → Bool} {F : B → B → Bool} → IsEquality E → IsEquality F → IsEquality (λ (x y : A × B). E x.0 y.0 && F x.1 y.1)
pairs first second x y =
    let both = also (first x.0 y.0) (second x.1 y.1) in
    (λ e. let h = both.0 e in λ i. (h.0 i, h.1 i), λ e. both.1 (ap (λ p. p.0) e, ap (λ p. p.1) e))

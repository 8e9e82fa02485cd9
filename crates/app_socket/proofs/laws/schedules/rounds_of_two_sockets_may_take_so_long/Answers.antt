use Rattle.std.proofs.Common.{◌≡◌, refl, ◌∙◌, ap, ℕ, Bool, true, false}
use Rattle.std.specs.Prelude.{Option, Some, not, ◌&&◌}
use Rattle.tcp_stream.specs.Endpoint.{is_earlier}
use Rattle.app_options.specs.declared.timestamps.Recent.{Recent}
use Rattle.app_options.specs.Timestamps.{is_outdated, takes, updated}
use Rattle.app_socket.proofs.laws.schedules.rounds_of_two_sockets_may_take_so_long.Goals as goal

not_old : (b : Bool) → not (not b && false) ≡ true
not_old true = refl
not_old false = refl

-- a timestamp that is not before TS.Recent is taken, at any time
takes_later : (recent : Recent) (o : Option (ℕ × ℕ)) (value echo now : ℕ) → o ≡ Some (value, echo) → is_earlier value recent.value ≡ false → takes (Some recent) o now ≡ true
takes_later recent o value echo now is later =
    ap (λ (x : Option (ℕ × ℕ)). takes (Some recent) x now) is ∙ ap (λ (b : Bool). not (not (is_outdated recent now) && b)) later ∙ not_old (is_outdated recent now)

-- also after the one before it was taken, or was not
takes_both : (recent : Recent) (o p : Option (ℕ × ℕ)) (value echo value2 echo2 now now2 : ℕ) → o ≡ Some (value, echo) → p ≡ Some (value2, echo2)
    → is_earlier value recent.value ≡ false → is_earlier value2 recent.value ≡ false → is_earlier value2 value ≡ false
    → (takes (Some recent) o now ≡ true) × ((takes (Some recent) p now2 ≡ true) × (takes (updated (Some recent) o now) p now2 ≡ true))
takes_both recent o p value echo value2 echo2 now now2 is is2 first second third =
    let next : Recent = record { value = value; heard_at = now } in
    let again : takes (updated (Some recent) o now) p now2 ≡ true = ap (λ (x : Option (ℕ × ℕ)). takes (updated (Some recent) x now) p now2) is ∙ takes_later next p value2 echo2 now2 is2 third in
    (takes_later recent o value echo now is first, (takes_later recent p value2 echo2 now2 is2 second, again))

pub returns-clause-texts : goal.returns-clause-texts
returns-clause-texts c =
    let one = c.args.one.now in
    let other = c.args.other.now in
    let t = takes_both (record { value = 900; heard_at = 700 }) one.text.options.timestamp other.text.options.timestamp 61000 700 361000 800 one.arrives other.arrives c.requires.text c.requires.text_then refl refl refl in
    (t.0, ((t.1.0, (tt, tt)), (t.1.1, (tt, tt))))

pub returns-clause-answers : goal.returns-clause-answers
returns-clause-answers c =
    let one = c.args.one.now in
    let other = c.args.other.now in
    let t = takes_both (record { value = 700; heard_at = 900 }) one.answer.options.timestamp other.answer.options.timestamp 800 61000 300800 361000 one.answered other.answered c.requires.answer c.requires.answer_then refl refl refl in
    (t.0, ((t.1.0, (tt, tt)), (t.1.1, (tt, tt))))

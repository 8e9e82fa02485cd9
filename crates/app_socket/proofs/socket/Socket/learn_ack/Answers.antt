use Rattle.std.proofs.Common.{◌≡◌, ◌∙◌, sym, ap, subst, ℕ, ◌+◌, ◌-◌, ◌%◌, true, false, arith}
use Rattle.tcp_stream.specs.Endpoint.{distance}
use Rattle.app_congestion.specs.Congestion.{is_in_recovery, sender_of}
use Rattle.app_connection.specs.declared.connection.Connection.{Connection}
use Rattle.app_socket.specs.declared.flow.Flow.{Flow}
use Rattle.app_socket.specs.declared.socket.Socket.{Socket}
use Rattle.app_socket.specs.Resends.{IsSound, ResendsOnPartial, restarted_at}
use Rattle.app_socket.specs.Undo.{Undoes}
use Rattle.app_socket.proofs.socket.Socket.learn_ack.Goals as goal
use Rattle.app_socket.proofs.socket.Socket.learn_ack.Goals.{then-newly-gt0, else-newly-gt0}

pub returns-clause-restarts : goal.returns-clause-restarts
returns-clause-restarts c = λ size fits newly. elim c.if-newly-gt0.branch [
  | then-newly-gt0 w ↦
      let now = c.args.now in
      let same = c.learn_duplicates.ensures.same in
      let first : c.if-newly-gt0.self.timers.resend_at ≡ restarted_at c.if-newly-gt0.self now =
      subst (λ (x : Socket). x.timers.resend_at ≡ restarted_at x now) (sym w.self-is) (w.learn_newly.ensures.restarts size fits)
      in
      ap (λ (x : Socket). x.timers.resend_at) same ∙ first ∙ sym (ap (λ (x : Socket). restarted_at x now) same)
  | else-newly-gt0 w ↦ absurd (omega (arith, newly, w.if-newly-gt0.false, c.una.ensures))
]

pub returns-clause-sound : goal.returns-clause-sound
returns-clause-sound c = λ sound.
    let old = c.args.self.now in
    let flight = old.connection.sending.flight in
    let b = c.args.before.now.una in
    let newly = (c.una.result + (4294967296 - b)) % 4294967296 in
    let is : newly ≡ distance old.connection.sending.una b = omega (arith, c.una.ensures) in
    let mid = c.if-newly-gt0.self in
    elim c.if-newly-gt0.branch [
      | then-newly-gt0 w ↦
          let moved : IsSound w.learn_newly.new.self.flow flight = w.learn_newly.ensures.sound (subst (λ (n : ℕ). IsSound old.flow (flight + n)) (sym is) sound) in
          let same : w.learn_newly.new.self.connection ≡ old.connection = ap (λ (x : Socket). x.connection) w.learn_newly.ensures.same in
          let whole : IsSound mid.flow mid.connection.sending.flight =
          subst (λ (x : Socket). IsSound x.flow x.connection.sending.flight) (sym w.self-is) (subst (λ (x : Connection). IsSound w.learn_newly.new.self.flow x.sending.flight) (sym same) moved)
          in
          subst (λ (n : ℕ). IsSound c.learn_duplicates.new.self.flow n) (ap (λ (x : Socket). x.connection.sending.flight) w.self-is ∙ ap (λ (x : Connection). x.sending.flight) same) (c.learn_duplicates.ensures.sound whole)
      | else-newly-gt0 w ↦
          let left : flight + distance old.connection.sending.una b ≡ flight = omega (arith, is, w.if-newly-gt0.false) in
          let whole : IsSound mid.flow mid.connection.sending.flight =
          subst (λ (x : Socket). IsSound x.flow x.connection.sending.flight) (sym w.self-is) (subst (λ (n : ℕ). IsSound old.flow n) left sound)
          in
          subst (λ (n : ℕ). IsSound c.learn_duplicates.new.self.flow n) (ap (λ (x : Socket). x.connection.sending.flight) w.self-is) (c.learn_duplicates.ensures.sound whole)
    ]

pub returns-clause-undoes : goal.returns-clause-undoes
returns-clause-undoes c = λ some needless.
    let old = c.args.self.now in
    let una = old.connection.sending.una in
    let flight = old.connection.sending.flight in
    let b = c.args.before.now.una in
    let newly = (c.una.result + (4294967296 - b)) % 4294967296 in
    let is : newly ≡ distance una b = omega (arith, c.una.ensures) in
    let mid = c.if-newly-gt0.self in
    let new = c.learn_duplicates.new.self in
    elim c.if-newly-gt0.branch [
      | then-newly-gt0 w ↦
          let last : (b + newly) % 4294967296 ≡ una = omega (arith, is, c.una.ensures) in
          let first : Undoes old.flow w.learn_newly.new.self.flow newly flight una =
          subst (λ (n : ℕ). Undoes old.flow w.learn_newly.new.self.flow newly flight n) last (w.learn_newly.ensures.undoes needless)
          in
          let all : Undoes old.flow mid.flow (distance una b) flight una =
          subst (λ (x : Socket). Undoes old.flow x.flow (distance una b) flight una) (sym w.self-is)
          (subst (λ (n : ℕ). Undoes old.flow w.learn_newly.new.self.flow n flight una) is first)
          in
          let calm : is_in_recovery mid.flow.congestion.phase ≡ false =
          ap (λ (x : Socket). is_in_recovery x.flow.congestion.phase) w.self-is ∙ w.learn_newly.ensures.calm needless
          in
          let still : new.flow ≡ record mid.flow { scoreboard = new.flow.scoreboard } = c.learn_duplicates.ensures.calm (omega (arith, is, some)) calm in
          record {
            sender = ap (λ (f : Flow). sender_of f.congestion) still ∙ all.sender;
            cursor = ap (λ (f : Flow). f.cursor) still ∙ all.cursor;
            resend = ap (λ (f : Flow). f.resend) still ∙ all.resend;
          }
      | else-newly-gt0 w ↦ absurd (omega (arith, some, w.if-newly-gt0.false, c.una.ensures))
    ]

pub returns-clause-partial : goal.returns-clause-partial
returns-clause-partial c = λ needed some partial rescued.
    let old = c.args.self.now in
    let una = old.connection.sending.una in
    let flight = old.connection.sending.flight in
    let b = c.args.before.now.una in
    let newly = (c.una.result + (4294967296 - b)) % 4294967296 in
    let is : newly ≡ distance una b = omega (arith, c.una.ensures) in
    elim c.if-newly-gt0.branch [
      | then-newly-gt0 w ↦
          let last : (b + newly) % 4294967296 ≡ una = omega (arith, is, c.una.ensures) in
          let first : ResendsOnPartial old.flow w.learn_newly.new.self.flow una flight newly =
          subst (λ (n : ℕ). ResendsOnPartial old.flow w.learn_newly.new.self.flow n flight newly) last (w.learn_newly.ensures.partial needed)
          in
          let resend : w.learn_newly.new.self.flow.resend ≡ true = first (omega (arith, is, some)) partial (omega (arith, is, rescued)) in
          c.learn_duplicates.ensures.still (ap (λ (x : Socket). x.flow.resend) w.self-is ∙ resend)
      | else-newly-gt0 w ↦ absurd (omega (arith, some, w.if-newly-gt0.false, c.una.ensures))
    ]

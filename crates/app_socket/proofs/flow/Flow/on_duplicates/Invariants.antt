use Rattle.std.proofs.Common.{◌≡◌, ◌+◌, ◌≤◌, ◌<◌, true, false}
use Rattle.app_congestion.specs.Congestion.{is_in_recovery, is_past}
use Rattle.app_socket.proofs.flow.Flow.on_duplicates.Given as goal

abbrev pub invariant-loop : goal.invariant-loop
invariant-loop l =
    record {
      same : l.self ≡ record l.fn.self { congestion = l.self.congestion; resend = l.self.resend; rescued = l.self.rescued; has_probe = l.self.has_probe; undo = l.self.undo };
      still : l.fn.self.resend ≡ true → l.self.resend ≡ true;
      none : l.counter ≡ 0 → l.self ≡ l.fn.self;
      counts : is_in_recovery l.fn.self.congestion.phase ≡ false → l.fn.self.congestion.duplicates + l.counter < 3
          → (l.self.congestion.phase ≡ l.fn.self.congestion.phase) × (l.self.congestion.duplicates ≡ l.fn.self.congestion.duplicates + l.counter);
      third : is_in_recovery l.fn.self.congestion.phase ≡ false → is_past l.fn.self.congestion.phase l.fn.una ≡ true → l.fn.self.congestion.duplicates < 3
          → 3 ≤ l.fn.self.congestion.duplicates + l.counter → l.self.resend ≡ true;
    }

-- `settling::walk::walk` meets its contract: what the two loops keep (Bytes), step by step. Assumes nothing.
use Rattle.std.proofs.Common.{ℕ, ◌≤◌, sym, ◌∙◌, arith}
use Rattle.rules.specs.declared.Book.{Book}
use Rattle.laws.specs.SoundRun.{sound_runnable}
use Rattle.laws.specs.SoundBytes.{shaped}
use Rattle.settling.specs.Bytes.{Started, gives_same, outside_start, inside_start, inside_next, outside_next, outside_spent, outside_end, meet_asks, meet_left, inside_met, meet_less, label_end}
use Rattle.settling.proofs.walk.walk.Goals as goal
use Rattle.settling.proofs.walk.walk.Goals.{else-receivers-test, then-receivers-test+then-has-eq0}

few : {b : Book} {s all d n : ℕ} → Started b s all d n → n ≤ 1024
few {b} st = omega (arith, st.count, (sound_runnable b st.asks.ok).few)

pub givers-init : goal.givers-init
givers-init c = record {
  began = record { shape = shaped c.args.b.now; asks = c.requires; day = c.day_at-day.ensures; count = c.records_at-n.ensures };
  outside = outside_start c.args.b.now c.args.security c.args.all.0 c.told-b c.requires;
}

pub receivers-init : goal.receivers-init
receivers-init c = let i = c.givers.invariant in record { began = i.began; inside = inside_start i.began _ _ _ _ c.givers-test.true i.outside }

pub position_at-giver-requires : goal.position_at-giver-requires
position_at-giver-requires c = omega (arith, few c.receivers.invariant.began)

pub position_at-receiver-requires : goal.position_at-receiver-requires
position_at-receiver-requires c = omega (arith, few c.receivers.invariant.began)

-- a receiver that wants nothing is passed over

pub receivers-preserved-then-wanted-eq0 : goal.receivers-preserved-then-wanted-eq0
receivers-preserved-then-wanted-eq0 c =
    let i = c.receivers.invariant in
    record { began = i.began; inside = inside_next i.began _ _ _ _ c.receivers-test.true (cc) i.inside }

-- ── a meeting ──

pub meet-requires : goal.meet-requires
meet-requires c =
    let i = c.receivers.invariant in
    meet_asks i.began _ _ _ _ _ c.givers-test.true c.receivers-test.true (cc) (omega arith) i.inside

pub overflow_sub-left : goal.overflow_sub-left
overflow_sub-left c =
    let i = c.receivers.invariant in
    meet_left i.began _ _ _ _ _ c.givers-test.true c.receivers-test.true (cc) (omega arith) i.inside

pub receivers-smaller : goal.receivers-smaller
receivers-smaller c =
    let i = c.receivers.invariant in
    omega (arith, meet_less i.began _ _ _ _ _ c.givers-test.true c.receivers-test.true (cc) (omega arith) i.inside c.meet.new.b (omega (arith, c.meet.array_long)) c.meet.ensures)

pub receivers-preserved : goal.receivers-preserved
receivers-preserved c =
    let i = c.receivers.invariant in
    record { began = i.began; inside = inside_met i.began _ _ _ _ _ c.givers-test.true c.receivers-test.true (cc) (omega arith) i.inside c.meet.new.b (omega (arith, c.meet.array_long)) c.meet.ensures }

-- ── the next giver, and the end ──

pub givers-preserved : goal.givers-preserved
givers-preserved c =
    let i = c.receivers.invariant in
    record {
      began = i.began;
      outside =
          elim c.receivers-test.branch [
            | else-receivers-test w ↦ outside_next i.began _ _ _ _ c.givers-test.true w.receivers-test.false i.inside
            | then-receivers-test+then-has-eq0 w ↦
                outside_spent i.began _ _ _ _ c.givers-test.true (sym (gives_same _ _ _ w.gives_of-has.ensures w.position_at-giver.ensures) ∙ w.if-has-eq0.true) i.inside
          ];
    }

pub returns-after-givers : goal.returns-after-givers
returns-after-givers c = outside_end c.givers.invariant.began _ _ _ _ c.givers-test.false c.givers.invariant.outside

pub returns-then-left-eq0 : goal.returns-then-left-eq0
returns-then-left-eq0 c =
    let i = c.receivers.invariant in
    label_end i.began _ _ _ _ _ c.givers-test.true c.receivers-test.true (cc) (omega arith) i.inside c.meet.new.b (omega (arith, c.meet.array_long)) c.meet.ensures c.if-left-eq0.true

use Rattle.std.proofs.Common.{rules, arith, eq-eqb, sym, subst, inl, inr, ◌∙◌, Option, Some}
use Rattle.std.proofs.lemmas.Grind.{common_steps}
use Rattle.master_duty.specs.of_state_model.Accounts.{duty_access, account_back}
use Rattle.master_duty.specs.declared.duty.Duty.{Duty}
use Rattle.master_side.specs.Carried.{one}
use Rattle.master_side.specs.Shown.{DutyShows}
use Rattle.master_side.proofs.Backs.{not_equal, errand_back, errand_asks, errand_done, errand_undone}
use Rattle.std.specs.Prelude.{◌==◌, slice_index}
use Rattle.master_duty.specs.of_ec_fields.Fields.{bits_of}
use Rattle.frame_view.specs.of_life_model.Lives.{passes}
use Rattle.master_side.specs.declared.passing.Passing.{Passing}
use Rattle.master_side.specs.Passing.{PassingShows, counts_at, news_back}
use Rattle.master_side.proofs.Passings.{full_shows}
use Rattle.master_side.proofs.Tellings.{errand_seen, undone_seen}
use Rattle.master_side.proofs.side.Side.errand_back.Goals as goal

pub returns-then-counter-eq0 : goal.returns-then-counter-eq0
returns-then-counter-eq0 g c = λ made. record {
  shown = λ x frame b d a s w i.
      let args = c.args.self.now in
      errand_back x (g.H.Hand.shows args.hand x) args.out args.inn args.fresh args.duty d a args.station b frame args.duty (account_back args.station frame a (one b)) (g.met.H.Hand.quiet args.hand x frame) w.station_is
      (errand_asks args.carried d.halves (duty_access a.hand) b.gram.ask b.access c.requires w.asks).0
      (errand_undone args.station frame c.args.counter c.args.octets.now a args.duty b i (inl c.if-counter-eq0.true) (s.state, s.over)) s;
  link = search rules;
  paused = search rules;
  turn = search rules;
  script = search rules;
  unpassed = search rules;
  passing = λ x kept p b d a s k h w i.
      let args = c.args.self.now in
      let counts = counts_at args.read_at args.pace made in
      record {
        is = undone_seen x g.H.Hand.acknowledged g.H.Hand.more g.H.Hand.passed args.station kept b d a args.passing counts p args.carried c.args.counter c.args.octets.now c.requires (eq-eqb c.args.counter 0 c.if-counter-eq0.true) w i h.is;
        awaited = h.awaited;
      };
  read = search rules;
  brought = search rules;
  replied = search rules;
  joined = search rules;
  knows = search rules;
  sure = search rules;
}

pub returns-in_default : goal.returns-in_default
returns-in_default g c = λ made. record {
  shown = λ x frame b d a s w i.
      let args = c.args.self.now in
      errand_back x (g.H.Hand.shows args.hand x) args.out args.inn args.fresh args.duty d a args.station b frame args.duty (account_back args.station frame a (one b)) (g.met.H.Hand.quiet args.hand x frame) w.station_is
      (errand_asks args.carried d.halves (duty_access a.hand) b.gram.ask b.access c.requires w.asks).0
      (errand_undone args.station frame c.args.counter c.args.octets.now a args.duty b i (inr (sym c.state_in_hand.ensures ∙ c.in_default.is)) (s.state, s.over)) s;
  link = search rules;
  paused = search rules;
  turn = search rules;
  script = search rules;
  unpassed = search rules;
  passing = λ x kept p b d a s k h w i.
      let args = c.args.self.now in
      let counts = counts_at args.read_at args.pace made in
      let octets = c.args.octets.now in
      let awaits = g.H.Hand.awaits args.hand in
      let life = passes x g.H.Hand.acknowledged g.H.Hand.more g.H.Hand.passed p (news_back args.station kept counts (one b)) in
      subst (λ (o : Option Passing). PassingShows awaits o life) (sym c.status_passed-passing.ensures)
      (full_shows args.passing args.carried (bits_of (slice_index octets 0) 3 1 == 1) awaits p life
      (errand_seen x g.H.Hand.acknowledged g.H.Hand.more g.H.Hand.passed args.station kept b d a args.passing counts p args.carried c.args.counter octets c.requires (not_equal c.args.counter 0 c.if-counter-eq0.false) w i h.is) h);
  read = search rules;
  brought = search rules;
  replied = search rules;
  joined = search rules;
  knows = search rules;
  sure = search rules;
}

pub returns-in-Some : goal.returns-in-Some
returns-in-Some g c = λ made. record {
  shown = λ x frame b d a s w i.
      let args = c.args.self.now in
      let some = not_equal c.args.counter 0 c.if-counter-eq0.false in
      errand_back x (g.H.Hand.shows args.hand x) args.out args.inn args.fresh args.duty d a args.station b frame (Some c.duty_met-met.result) (account_back args.station frame a (one b)) (g.met.H.Hand.quiet args.hand x frame) w.station_is
      (errand_asks args.carried d.halves (duty_access a.hand) b.gram.ask b.access c.requires w.asks).0
      (errand_done args.station frame c.args.counter c.args.octets.now args.carried d.halves (duty_access a.hand) a c.in-Some.duty c.duty_met-met.result b c.requires w i some
      (subst (λ (z : Option Duty). DutyShows z a.hand) (sym c.state_in_hand.ensures ∙ c.in-Some.is) s.state) (c.duty_met-met.ensures.done d.halves (duty_access a.hand) b.gram.ask b.access c.args.counter w.asks some i.whole) c.duty_met-met.ensures.kept) s;
  link = search rules;
  paused = search rules;
  turn = search rules;
  script = search rules;
  unpassed = search rules;
  passing = λ x kept p b d a s k h w i.
      let args = c.args.self.now in
      let counts = counts_at args.read_at args.pace made in
      let octets = c.args.octets.now in
      let awaits = g.H.Hand.awaits args.hand in
      let life = passes x g.H.Hand.acknowledged g.H.Hand.more g.H.Hand.passed p (news_back args.station kept counts (one b)) in
      subst (λ (o : Option Passing). PassingShows awaits o life) (sym c.status_passed-passing.ensures)
      (full_shows args.passing args.carried (bits_of (slice_index octets 0) 3 1 == 1) awaits p life
      (errand_seen x g.H.Hand.acknowledged g.H.Hand.more g.H.Hand.passed args.station kept b d a args.passing counts p args.carried c.args.counter octets c.requires (not_equal c.args.counter 0 c.if-counter-eq0.false) w i h.is) h);
  read = search rules;
  brought = search rules;
  replied = search rules;
  joined = grind (arith, common_steps);
  knows = search rules;
  sure = search rules;
}

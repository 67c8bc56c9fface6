-- What a slave promises, from what its seat and its account carry.
use Rattle.std.proofs.Common.{◌≡◌, inl, inr, ℕ, ◌+◌, ◌<◌, Bool, Option, Some, None, List, [], ◌∷◌, ◌++◌, take, length, refl, ap, ap₂, sym, ◌∙◌, subst, arith, append-nil, length-append}
use Rattle.std.proofs.lemmas.List.{length-take-le}
use Rattle.segment_model.specs.of_exchange_model.Prefix.{IsPrefixOf}
use Rattle.segment_model.specs.of_exchange_model.Exchange.{Exchange, IsLawful, after, given, emitted}
use Rattle.segment_model.specs.of_exchange_model.Rows.{Fits, services, exec_all, emits_all}
use Rattle.segment_model.proofs.of_exchange_model.Lists.{prefix_nil}
use Rattle.segment_model.proofs.of_exchange_model.Moments
use Rattle.segment_model.proofs.of_link_model.Law.{accepted_of_offered}
use Rattle.segment_model.specs.Record.{Frame}
use Rattle.segment_model.specs.Ends.{Outcome}
use Rattle.segment_model.specs.Seats.{Seat, link_of, newest, rows_of}
use Rattle.state_model.specs.States.{Table}
use Rattle.state_model.specs.Promises.{IsTable}
use Rattle.state_model.specs.Stated.{Stated, IsStated, Act, Service, Counting, acts, mails, states_in, with_states, service_handed}
use Rattle.state_model.proofs.Acts.{mails_acts, mails_append, emitted_acts, left_none, executed}
use Rattle.state_model.proofs.StatedLaw.{stated_law}
use Rattle.state_model.specs.Accounts.{Duty, Account}
use Rattle.state_model.specs.Promise.{TasksPromised, AllReplied, AllDone, services_in, state_found}
use Rattle.state_model.proofs.Ghosts.{GhostRow, counting, starts_of, labels_of, mail_labels, Staged, Now, Rowed, Untouched, mail_labels_append, labels_append, shown_label, state_label}
use Rattle.state_model.proofs.Begins.{accepted_begin}
use Rattle.state_model.proofs.TaskOrders.{StatesReplied}
use Rattle.state_model.proofs.Stately.{state_over, free_state, duty_outcome, started_replied}
use Rattle.state_model.proofs.Completed.{completed_rises, completed_ended}
use Rattle.state_model.proofs.Newest.{Holds, answered}
use Rattle.state_model.proofs.Replies.{AllLabelled, rows_labelled, replied_all}
use Rattle.state_model.proofs.Dones.{StateBelow, StatesBelow, by_kind, services_same, starts_length, services_length, front_below, all_counted, below_all, done_all}

-- the emissions among acts that begin others
mails_begin : {M : Type 0} (few all : List (Act M)) → IsPrefixOf few all → IsPrefixOf (mails few) (mails all)
mails_begin few all p = (mails p.0, sym (mails_append few p.0) ∙ ap mails p.1)

module _ {V A M Q R : Type 0} (x : Exchange V A M Q R) (law : IsLawful x) (s : Stated V A Q) (stated : IsStated x s) (table : Table) (more : M → Bool) (start : ℕ) (is : IsTable table start)
    (fs : List (Frame M)) (seat : Seat V M Q R) (a : Account Q R) where
  abbrev Kept : Type 0
  Kept = Holds x law s stated table more start is fs seat a

  abbrev both : Exchange (Counting V) (A × ℕ) (Act M) (Service Q) (Outcome R)
  both = with_states x s table

  lawful : IsLawful both
  lawful = stated_law x s table stated law

  abbrev at_start : Counting V
  at_start = counting seat.start

  -- rows that the account has, which fit a server: all the promise but for what the record says of the rows
  pub record Fitted (gs : List (GhostRow M Q R)) : Type 0 where
    pub server : Counting V
    pub same : server.server ≡ seat.slave.node.server.server
    pub started : starts_of gs ≡ a.started
    pub fits : Fits both at_start gs server (acts seat.accepted)
    pub labels : AllLabelled x more seat.station fs (mail_labels gs)
    pub below : StatesBelow x more seat.station fs fits.count 0 gs

  promise_of : Kept → (gs : List (GhostRow M Q R)) → Fitted gs → TasksPromised x s table more fs seat.station seat.start seat.side a seat.slave
  promise_of h gs k =
      let f = k.fits in
      let qs : services gs ≡ services_in a.started = services_same gs ∙ ap services_in k.started in
      let size : length a.started ≡ length gs = ap length (sym k.started) ∙ starts_length gs in
      let first : length (take f.count (services_in a.started)) ≡ f.count = length-take-le f.count (services_in a.started) (let l = ap length qs in let few = f.prefix in let same = services_length gs in omega (arith, l, few, same)) in
      let done : both.app k.server ≡ exec_all both (x.app seat.start, 0) (take f.count (services_in a.started)) = f.app ∙ ap (λ l. exec_all both (x.app seat.start, 0) (take f.count l)) qs in
      let words : k.server.words ≡ 0 + states_in (take f.count (services_in a.started)) = ap (λ (p : A × ℕ). p.1) done ∙ executed x s table (x.app seat.start) 0 (take f.count (services_in a.started)) in
      let kinds = by_kind (take f.count (services_in a.started)) in
      let handled = f.handled in
      record {
        count = f.count;
        app = ap x.app (sym k.same) ∙ ap (λ (p : A × ℕ). p.0) done;
        handled = ap x.handled (sym k.same) ∙ omega (arith, first, words, kinds, handled);
        state = h.carried.state;
        prefix = let few = f.prefix in omega (arith, few, size);
        behind = let few = f.behind in omega (arith, few, size);
        replied = subst (AllReplied x s table more seat.station fs (x.app seat.start, 0)) k.started
            (replied_all x more seat.station fs s stated table gs (x.app seat.start, 0) f.replied k.labels
            (subst (λ n. StatesReplied x more seat.station fs table n (starts_of gs)) (sym h.begun) (subst (StatesReplied x more seat.station fs table start) (sym k.started) (started_replied table start is seat.station x more fs seat.slave.registers a h.stately))));
        in_done = subst (AllDone x.speech more seat.station fs f.count 0) k.started (done_all x more seat.station fs f.count 0 gs f.in_done k.below k.labels);
        rises = completed_rises x more seat.station fs a.started h.completed;
        in_doubt = completed_ended x more seat.station fs a.started h.completed;
        emissions = subst (λ l. IsPrefixOf (emitted x.speech.emission l) (mails (emits_all both (x.app seat.start, 0) (take f.count (services_in a.started))))) h.records.hears
            (subst (λ l. IsPrefixOf (emitted x.speech.emission seat.accepted) (mails (emits_all both (x.app seat.start, 0) (take f.count l)))) qs
            (subst (λ l. IsPrefixOf l (mails (emits_all both (x.app seat.start, 0) (take f.count (services gs))))) (ap mails (emitted_acts x.speech.emission seat.accepted) ∙ mails_acts (emitted x.speech.emission seat.accepted))
            (mails_begin (emitted both.speech.emission (acts seat.accepted)) (emits_all both (x.app seat.start, 0) (take f.count (services gs))) f.emissions)));
        flag = λ none. (free_state table start is seat.station fs seat.slave.registers a h.stately none).1;
      }

  -- before the first service
  fits_first : (h : Kept) → Untouched x law s table seat a h.carried.taken → Fitted []
  fits_first h u =
      let c = h.carried in
      let none : acts seat.accepted ≡ [] = prefix_nil (acts seat.accepted) (subst (IsPrefixOf (acts seat.accepted)) (ap (given both.serve at_start) u.none)
      (accepted_begin seat.accepted seat.offered seat.slave.node.server.waiting (given both.serve at_start c.taken) c.gave (accepted_of_offered (link_of seat) h.agrees))) in
      record {
        server = at_start;
        same = ap (λ l. (after both.serve at_start l).server) (sym u.none) ∙ c.serves;
        started = sym u.started;
        fits = record {
          count = 0;
          handled = omega arith;
          app = refl;
          prefix = omega arith;
          behind = omega arith;
          in_done = tt;
          replied = tt;
          emissions = ([], ap (λ l. emitted both.speech.emission l ++ []) none);
        };
        labels = tt;
        below = tt;
      }

  -- the labels of all rows are those of the side
  pub all_labels : (before : List (GhostRow M Q R)) (now : GhostRow M Q R) (from state : ℕ) (rest : List M) → Now x law s table from state rest seat.side a.hand before now → mail_labels (before ++ now ∷ []) ≡ labels_of (rows_of seat.side)
  all_labels before now from state rest (inl m) =
      mail_labels_append before (now ∷ []) ∙ ap₂ (λ (l k : List _). l ++ (k ++ [])) m.past (shown_label now m.row m.shows) ∙ sym (labels_append seat.side.past (m.row ∷ []))
      ∙ ap (λ n. labels_of (seat.side.past ++ newest n)) (sym m.is)
  all_labels before now from state rest (inr n) =
      mail_labels_append before (now ∷ []) ∙ ap₂ (λ (l k : List _). l ++ (k ++ [])) n.past (state_label now n.target n.service) ∙ append-nil (labels_of (rows_of seat.side))

  -- a state service that is over was taken, and all before it
  module _ (h : Kept) (r : Rowed x law s table (state_over table start a.over) seat a h.carried.taken h.carried.rest) where
    abbrev held : List (Act M)
    held = h.carried.taken ++ acts h.carried.rest

    fits : Fits both at_start (r.front ++ r.last ++ r.now ∷ []) (after both.serve at_start h.carried.taken) (acts seat.accepted)
    fits = Moments.fits both lawful at_start h.ready r.front r.last r.now held h.carried.taken (acts seat.accepted) r.moment

    counted : (target : ℕ) → r.now.service ≡ Service.State target → h.carried.rest ≡ [] → r.now.told ≡ Act.Word target ∷ [] → fits.count ≡ length (r.front ++ r.last ++ r.now ∷ [])
    counted target service rest told = all_counted both lawful at_start h.ready r.front r.last r.now held h.carried.taken (acts seat.accepted) r.moment fits (ap (service_handed x.speech) service)
        (left_none x s table r.now target (Act.Word target) [] service told) (sym (append-nil h.carried.taken) ∙ ap (λ l. h.carried.taken ++ acts l) (sym rest))

    newest_below : Now x law s table (state_over table start a.over) seat.slave.registers.state h.carried.rest seat.side a.hand (r.front ++ r.last) r.now → StateBelow x more seat.station fs fits.count (length (r.front ++ r.last)) r.now.frame r.now.service
    newest_below (inl m) = subst (StateBelow x more seat.station fs fits.count (length (r.front ++ r.last)) r.now.frame) (sym m.shows.service) tt
    newest_below (inr n) = subst (StateBelow x more seat.station fs fits.count (length (r.front ++ r.last)) r.now.frame) (sym n.service) (go a.hand refl n.stage)
      where
        go : (hand : Option Duty) → a.hand ≡ hand → Staged table (state_over table start a.over) seat.slave.registers.state h.carried.rest seat.side.halves.out.holding n.target r.now.frame hand r.now.told →
            (o : Outcome R × ℕ) → state_found x.speech more seat.station fs n.target r.now.frame ≡ Some o → length (r.front ++ r.last) < fits.count
        go None e stage o found =
            let all = counted n.target n.service stage.0 stage.1 in
            let size = length-append (r.front ++ r.last) (r.now ∷ []) in
            omega (arith, all, size)
        go (Some duty) e stage o found =
            let open_now = (duty_outcome table start is seat.station x more fs seat.slave.registers a duty h.stately e).0 in
            let none : state_found x.speech more seat.station fs n.target r.now.frame ≡ None = sym (ap₂ (λ (t k : ℕ). state_found x.speech more seat.station fs t k) stage.0 stage.1) ∙ open_now in
            absurd (let no : None ≡ Some o = sym none ∙ found in cc)

  pub promised : Kept → TasksPromised x s table more fs seat.station seat.start seat.side a seat.slave
  promised h = elim h.carried.rows [
    | inl u ↦ promise_of h [] (fits_first h u)
    | inr r ↦ promise_of h (r.front ++ r.last ++ r.now ∷ []) (record {
      server = after both.serve at_start h.carried.taken;
      same = h.carried.serves;
      started = r.started;
      fits = fits h r;
      labels = subst (AllLabelled x more seat.station fs) (sym (all_labels (r.front ++ r.last) r.now (state_over table start a.over) seat.slave.registers.state h.carried.rest r.place)) (rows_labelled x more seat.station fs (rows_of seat.side) (answered x law s stated table more start is fs seat a h));
      below = below_all x more seat.station fs (fits h r).count r.front r.last r.now (front_below both lawful at_start h.ready r.front r.last r.now (held h r) h.carried.taken (acts seat.accepted) r.moment (fits h r)) r.mails_last (newest_below h r r.place);
    })
  ]

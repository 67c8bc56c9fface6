-- WHAT WAS HEARD FOR THE MAIL THAT IS PASSED ON, at one moment of an epoch: the first of the replies of the server's one step, behind the rows before it.
use Rattle.std.proofs.Common.{◌≡◌, inl, inr, ℕ, suc, ◌&&◌, Bool, true, false, not, is_some, Option, None, Some, option_map, List, [], ◌∷◌, ◌++◌, map, refl, ap, ap₂, sym, ◌∙◌, subst, append-nil, if◌then◌else◌}
use Rattle.std.specs.Prelude.{⊤}
use Rattle.std.proofs.lemmas.List.{map-append}
use Rattle.served_places.specs.of_exchange_model.Prefix.{IsPrefixOf}
use Rattle.served_places.specs.of_exchange_model.Exchange.{Exchange, IsLawful, after, given, plain}
use Rattle.served_places.specs.of_exchange_model.Rows.{Row, Settled, told_all, services, exec_all}
use Rattle.served_places.proofs.of_exchange_model.Nows.{heard_begins}
use Rattle.served_places.proofs.of_exchange_model.Settles.{settled_app, settled_ready}
use Rattle.run_work.specs.of_few_replies.Calm.{calm_tagged}
use Rattle.served_places.proofs.of_few_replies.Clients.{plain_untag}
use Rattle.run_work.specs.of_few_replies.Silent.{IsForeseenRight}
use Rattle.served_places.specs.of_segment_model.Ends.{Outcome}
use Rattle.served_places.specs.of_segment_model.Laws.{as_outcome}
use Rattle.served_places.specs.of_segment_model.Record.{Frame}
use Rattle.served_places.specs.of_segment_model.Seats.{Seat}
use Rattle.run_work.proofs.of_serving_model.Passings.{by_contents}
use Rattle.served_places.specs.of_serving_model.Passing.{ends_told, LastTells}
use Rattle.served_places.specs.of_serving_model.Tagged.{IsServed, Meant, Tagged, Asked, Rowed, asked_exec, untag, own_gift, is_own, no_reply, answer_gifts, ends_marked, ideal}
use Rattle.served_places.specs.of_serving_model.TaggedStates.{tagged_states}
use Rattle.served_places.specs.of_state_model.Stated.{Stated, IsStated, Act, acts, Service, Counting, ends_by, service_ends, service_valid, with_states}
use Rattle.served_places.proofs.of_state_model.Acts.{all_acts, begin_acts, given_acts, plain_acts}
use Rattle.served_places.proofs.of_state_model.StatedLaw.{stated_law}
use Rattle.served_places.specs.of_state_model.Promises.{IsTable, state_behind}
use Rattle.served_places.specs.of_state_model.States.{Table}
use Rattle.run_work.specs.of_life_counts.Foreseen.{AllRight, server_behind}
use Rattle.run_work.proofs.of_life_counts.Rights.{Between, IsRight, alike, rows_between, tells}
use Rattle.run_work.proofs.of_life_counts.Steps.{started_services}
use Rattle.served_places.specs.of_state_model.Accounts.{Account, Started}
use Rattle.served_places.specs.of_state_model.Promise.{services_in}
use Rattle.served_places.proofs.of_state_model.Ghosts as Ghosts
use Rattle.served_places.proofs.of_state_model.Ghosts.{counting, start_of, starts_of, starts_append, Shows}
use Rattle.served_places.proofs.of_state_model.Newest.{Holds}
use Rattle.served_places.proofs.of_state_model.Stately.{state_over}

left_of : (a b : Bool) → (a && b) ≡ true → a ≡ true
left_of true b e = refl
left_of false b e = absurd (let no : false ≡ true = e in cc)

some_is : {X : Type 0} (found : Option X) → is_some found ≡ true → (o : X) × (found ≡ Some o)
some_is None e = absurd (let no : false ≡ true = e in cc)
some_is (Some o) e = (o, refl)

none_snoc : {X : Type 0} (xs : List X) (x : X) → [] ≡ xs ++ x ∷ [] → ⊥
none_snoc [] x e = let no : [] ≡ x ∷ [] = e in cc
none_snoc (z ∷ xs) x e = let no : [] ≡ z ∷ (xs ++ x ∷ []) = e in cc

-- two lists with one more each are the same lists
pub snoc_same : {X : Type 0} (xs ys : List X) (x y : X) → xs ++ x ∷ [] ≡ ys ++ y ∷ [] → (xs ≡ ys) × (x ≡ y)
snoc_same [] [] x y e = (refl, (let one : x ∷ [] ≡ y ∷ [] = e in cc))
snoc_same [] (z ∷ ys) x y e = absurd (none_snoc ys y (let tail : [] ≡ ys ++ y ∷ [] = cc in tail))
snoc_same (z ∷ xs) [] x y e = absurd (none_snoc xs x (let tail : [] ≡ xs ++ x ∷ [] = cc in tail))
snoc_same (z ∷ xs) (k ∷ ys) x y e =
    let head : z ≡ k = cc in
    let rest = snoc_same xs ys x y (let tail : xs ++ x ∷ [] ≡ ys ++ y ∷ [] = cc in tail) in
    (ap₂ (λ a l. a ∷ l) head rest.0, rest.1)

module _ {V M Q R : Type 0} (x : Exchange V V M Q R) (more : M → Bool) where
  abbrev RowHere : Type 0
  RowHere = Row (Tagged M Q) (Asked M Q) (Option R)

  abbrev pub replies : RowHere → List (Tagged M Q)
  replies r = plain (λ (t : Tagged M Q). is_own t.meant) r.heard

  -- OF A MAIL that is passed on to this server, foreseen right: the first of its replies were heard in the row; and an answer comes with the last of them
  pub record IsHeard (v : V) (m : M) (answers : Bool) (r : RowHere) : Type 0 where
    pub ready : x.ready v ≡ true
    pub right : IsForeseenRight x v m answers
    pub begin : IsPrefixOf (untag (replies r)) (plain x.speech.emission (x.serve v m).1)
    pub ended : answers ≡ true → is_some r.answer ≡ true → ends_told more (untag (replies r)) ≡ true

module _ {V M Q R : Type 0} (x : Exchange V V M Q R) (s : Stated V V Q) (t : Table) where
  -- each of services is foreseen right at the server behind those before it
  pub right_at : (v : V) (qs : List (Service (Asked M Q))) (m : M) (answers : Bool) (rest : List (Service (Asked M Q))) → AllRight x s t v (qs ++ Service.Mails (Asked.Passed m answers) ∷ rest) → IsForeseenRight x (server_behind x s t v qs) m answers
  right_at v [] m answers rest all = all.0
  right_at v (Service.Mails q ∷ qs) m answers rest all = right_at (asked_exec x v q) qs m answers rest all.1
  right_at v (Service.State target ∷ qs) m answers rest all = right_at (s.tell (state_behind t (s.state v) target) v) qs m answers rest all

module _ {V M Q R : Type 0} (x : Exchange V V M Q R) (calm : V → Bool) (fair : M → Bool) where
  -- ALL SERVICES that came into hand are such as the laws speak of
  abbrev pub AllValid : List (Service (Asked M Q)) → Type 0
  AllValid [] = ⊤
  AllValid (q ∷ qs) = (service_valid (calm_tagged x calm fair).speech q ≡ true) × AllValid qs

  valid_append : (ps : List (Service (Asked M Q))) (q : Service (Asked M Q)) → AllValid ps → service_valid (calm_tagged x calm fair).speech q ≡ true → AllValid (ps ++ q ∷ [])
  valid_append [] q all one = (one, tt)
  valid_append (p ∷ ps) q all one = (all.0, valid_append ps q all.1 one)

  -- what services make of the application is the server behind them
  pub exec_is : (s : Stated V V Q) (t : Table) (v : V) (k : ℕ) (qs : List (Service (Asked M Q))) → (exec_all (with_states (calm_tagged x calm fair) (tagged_states x s) t) (v, k) qs).0 ≡ server_behind x s t v qs
  exec_is s t v k [] = refl
  exec_is s t v k (Service.Mails q ∷ qs) = exec_is s t (asked_exec x v q) k qs
  exec_is s t v k (Service.State target ∷ qs) = exec_is s t (s.tell (state_behind t (s.state v) target) v) (suc k) qs

module _ {V M Q R C : Type 0} (x : Exchange V V M Q R) (core : V → C) (law : IsServed x core) (calm : V → Bool) (fair : M → Bool) (s : Stated V V Q) (more : M → Bool) (last : LastTells x more)
    (t : Table) (lawful : IsLawful (calm_tagged x calm fair)) (stated : IsStated (calm_tagged x calm fair) (tagged_states x s)) where
  abbrev y : Exchange (Rowed V M Q) V (Tagged M Q) (Asked M Q) (Option R)
  y = calm_tagged x calm fair

  abbrev both : Exchange (Counting (Rowed V M Q)) (V × ℕ) (Act (Tagged M Q)) (Service (Asked M Q)) (Outcome (Option R))
  both = with_states y (tagged_states x s) t

  abbrev RowOne : Type 0
  RowOne = Row (Tagged M Q) (Asked M Q) (Option R)

  abbrev SeatHere : Type 0
  SeatHere = Seat (Rowed V M Q) (Tagged M Q) (Asked M Q) (Option R)

  abbrev AccountHere : Type 0
  AccountHere = Account (Asked M Q) (Option R)

  abbrev own : Tagged M Q → Bool
  own k = is_own k.meant

  both_lawful : IsLawful both
  both_lawful = stated_law y (tagged_states x s) t stated lawful

  settled_valid : (c : Counting (Rowed V M Q)) (gs : List (Ghosts.GhostRow (Tagged M Q) (Asked M Q) (Option R))) → Settled both c gs → AllValid x calm fair (services gs)
  settled_valid c [] k = tt
  settled_valid c (g ∷ gs) k = (k.0.valid, settled_valid (after both.serve c g.told) gs k.1)

  -- THE SERVER BEHIND ROWS that are over stands between rows, and is the one behind their services
  pub record Behind (start : Rowed V M Q) (gs : List (Ghosts.GhostRow (Tagged M Q) (Asked M Q) (Option R))) (v : V) : Type 0 where
    pub stands : Between x (after both.serve (counting start) (told_all gs)).server
    pub app : ideal x (after both.serve (counting start) (told_all gs)).server ≡ v
    pub ready : x.ready v ≡ true

  pub behind : (start : Rowed V M Q) → Between x start → y.ready start ≡ true → (gs : List (Ghosts.GhostRow (Tagged M Q) (Asked M Q) (Option R))) → Settled both (counting start) gs → (qs : List (Service (Asked M Q))) → services gs ≡ qs → Behind start gs (server_behind x s t (ideal x start) qs)
  behind start between ready gs settled qs same =
      let c = counting start in
      let u = after both.serve c (told_all gs) in
      let app : ideal x u.server ≡ server_behind x s t (ideal x start) qs =
      ap (λ k. k.0) (settled_app both both_lawful c gs ready settled) ∙ exec_is x calm fair s t (ideal x start) 0 (services gs) ∙ ap (server_behind x s t (ideal x start)) same in
      record {
        stands = rows_between x core law calm fair s t lawful stated c between ready gs settled;
        app = app;
        ready = subst (λ v. x.ready v ≡ true) app (left_of (x.ready (ideal x u.server)) (calm (ideal x u.server)) (settled_ready both both_lawful c gs ready settled));
      }

  -- what it gives for a mail that is passed on, foreseen right, are the replies of its one step
  pub gifts_are : (start : Rowed V M Q) (gs : List (Ghosts.GhostRow (Tagged M Q) (Asked M Q) (Option R))) (v : V) → Behind start gs v → (m : M) (answers : Bool) → IsForeseenRight x v m answers →
      untag (plain own (y.serve (after both.serve (counting start) (told_all gs)).server (record { mail = m; meant = Meant.Alone answers })).1) ≡ plain x.speech.emission (x.serve v m).1
  gifts_are start gs v k m answers right =
      let u = after both.serve (counting start) (told_all gs) in
      let one : Tagged M Q = record { mail = m; meant = Meant.Alone answers } in
      let alone : IsRight x u.server one = IsRight.alone m answers k.stands (subst (λ z. IsForeseenRight x z m answers) (sym k.app) right) in
      plain_untag x.speech.emission (y.serve u.server one).1 (tells x u.server one alone)
      ∙ ap (plain x.speech.emission) ((alike x u.server one alone).gives ∙ ap (λ z. (x.serve z m).1) (sym k.stands)) ∙ ap (λ z. plain x.speech.emission (x.serve z m).1) k.app

  -- what both exchanges give for it is the same
  pub given_one : (c : Counting (Rowed V M Q)) (m : M) (answers : Bool) → plain both.speech.emission (given both.serve c (both.full c (Service.Mails (Asked.Passed m answers)))) ≡ acts (plain own (y.serve c.server (record { mail = m; meant = Meant.Alone answers })).1)
  given_one c m answers =
      let one : Tagged M Q = record { mail = m; meant = Meant.Alone answers } in
      ap (plain both.speech.emission) (given_acts y (tagged_states x s) t c (one ∷ [])) ∙ plain_acts y.speech.emission (given y.serve c.server (one ∷ [])) ∙ ap (λ l. acts (plain own l)) (append-nil (y.serve c.server one).1)

  module _ (mores : Tagged M Q → Bool) (begun : ℕ) (is : IsTable t begun) (fs : List (Frame (Tagged M Q))) (seat : SeatHere) (a : AccountHere) (h : Holds y lawful (tagged_states x s) stated t mores begun is fs seat a) where
    abbrev RowsHere : Type 0
    RowsHere = Ghosts.Rowed y lawful (tagged_states x s) t (state_over t begun a.over) seat a h.carried.taken h.carried.rest

    -- the services that came into hand are those of the rows
    split : (g : RowsHere) → a.started ≡ starts_of (g.front ++ g.last) ++ start_of g.now ∷ []
    split g = sym (sym (starts_append (g.front ++ g.last) (g.now ∷ [])) ∙ g.started)

    split_services : (g : RowsHere) → services_in a.started ≡ services (g.front ++ g.last) ++ g.now.service ∷ []
    split_services g = ap services_in (split g) ∙ map-append (λ (k : Started (Asked M Q)). k.service) (starts_of (g.front ++ g.last)) (start_of g.now ∷ []) ∙ ap (λ l. l ++ g.now.service ∷ []) (started_services (g.front ++ g.last))

    pub all_valid : AllValid x calm fair (services_in a.started)
    all_valid = elim h.carried.rows [
      | inl u ↦ subst (λ (l : List (Started (Asked M Q))). AllValid x calm fair (services_in l)) (sym u.started) tt
      | inr g ↦ subst (AllValid x calm fair) (sym (split_services g)) (valid_append x calm fair (services (g.front ++ g.last)) g.now.service (settled_valid (counting seat.start) (g.front ++ g.last) g.moment.fits.settled) g.moment.fits.valid)
    ]

    module _ (between : Between x seat.start) (right : AllRight x s t (ideal x seat.start) (services_in a.started)) (before : List (Started (Asked M Q))) (q : Asked M Q) (f : ℕ) (started : a.started ≡ before ++ record { service = Service.Mails q; frame = f } ∷ [])
        (m : M) (answers : Bool) (r : RowOne) (now : seat.side.now ≡ Some r) (passes : r.service ≡ Asked.Passed m answers) where
      abbrev at : V
      at = server_behind x s t (ideal x seat.start) (services_in before)

      abbrev newest : Started (Asked M Q)
      newest = record { service = Service.Mails q; frame = f }

      -- the newest of the rows is the newest that came into hand
      last_same : (g : RowsHere) → (starts_of (g.front ++ g.last) ≡ before) × (start_of g.now ≡ newest)
      last_same g = snoc_same (starts_of (g.front ++ g.last)) before (start_of g.now) newest (sym (split g) ∙ started)

      -- both ways to tell whether all its replies were heard are one
      marks : (v : V) → x.ready v ≡ true → IsForeseenRight x v m answers → IsPrefixOf (replies x more r) (plain own (if answers then answer_gifts x.speech.emission m (x.serve v m).1 else map (λ g. own_gift g) (x.serve v m).1)) → answers ≡ true →
          ends_marked (replies x more r) ≡ ends_told more (untag (replies x more r))
      marks v ready right part yes_ = go answers right part yes_
        where
          opposite : (b : Bool) → true ≡ not b → b ≡ false
          opposite false e = refl
          opposite true e = absurd (let no : true ≡ false = e in cc)

          go : (b : Bool) → IsForeseenRight x v m b → IsPrefixOf (replies x more r) (plain own (if b then answer_gifts x.speech.emission m (x.serve v m).1 else map (λ g. own_gift g) (x.serve v m).1)) → b ≡ true →
              ends_marked (replies x more r) ≡ ends_told more (untag (replies x more r))
          go true right part e = by_contents x more last v m ready (opposite (no_reply x.speech.emission (x.serve v m).1) right) (replies x more r) part.0 (sym part.1)
          go false right part e = absurd (let no : false ≡ true = e in cc)

      -- an answer comes with the last
      marked : (b c : Bool) (o : Outcome (Option R)) → b ≡ true → option_map (λ z. Outcome.Replied z) (if b && c then Some None else None) ≡ Some o → c ≡ true
      marked true true o e g = refl
      marked true false o e g = absurd (let no : None ≡ Some o = g in cc)
      marked false c o e g = absurd (let no : false ≡ true = e in cc)

      -- the row's own mails
      by_mails : (g : RowsHere) → Shows g.now r → IsHeard x more at m answers r
      by_mails g shows =
          let past = g.front ++ g.last in
          let c = counting seat.start in
          let u = after both.serve c (told_all past) in
          let fits = g.moment.fits in
          let one : Tagged M Q = record { mail = m; meant = Meant.Alone answers } in
          let service : g.now.service ≡ Service.Mails (Asked.Passed m answers) = shows.service ∙ ap (λ z. Service.Mails z) passes in
          let asked : Service.Mails q ≡ Service.Mails (Asked.Passed m answers) = sym (ap (λ (k : Started (Asked M Q)). k.service) (last_same g).1) ∙ service in
          let right_here : IsForeseenRight x at m answers = right_at x s t (ideal x seat.start) (services_in before) m answers []
          (subst (AllRight x s t (ideal x seat.start)) (ap services_in started ∙ map-append (λ (k : Started (Asked M Q)). k.service) before (newest ∷ []) ∙ ap (λ z. services_in before ++ z ∷ []) asked) right) in
          let same : services past ≡ services_in before = sym (started_services past) ∙ ap services_in (last_same g).0 in
          let k = behind seat.start between h.ready past fits.settled (services_in before) same in
          let gifts = (y.serve u.server one).1 in
          let begins = heard_begins both both_lawful c past g.now (h.carried.taken ++ acts h.carried.rest) h.carried.taken (acts seat.accepted) fits.settled fits.all_held fits.all_accepted g.moment.order g.moment.hears fits.mine in
          let plains : plain both.speech.emission g.now.heard ≡ acts (replies x more r) = ap (plain both.speech.emission) shows.heard ∙ plain_acts y.speech.emission r.heard in
          let part : IsPrefixOf (acts (replies x more r)) (acts (plain own gifts)) =
          subst (λ l. IsPrefixOf l (acts (plain own gifts))) plains
          (subst (λ l. IsPrefixOf (plain both.speech.emission g.now.heard) l) (ap (λ z. plain both.speech.emission (given both.serve u (both.full u z))) service ∙ given_one u m answers) begins) in
          let own_part : IsPrefixOf (replies x more r) (plain own gifts) = begin_acts (replies x more r) (plain own gifts) part in
          let untagged = gifts_are seat.start past at k m answers right_here in
          record {
            ready = k.ready;
            right = right_here;
            begin = (untag own_part.0, sym (map-append (λ (k : Tagged M Q). k.mail) (replies x more r) own_part.0) ∙ ap untag own_part.1 ∙ untagged);
            ended = λ yes_ some. sym (marks (ideal x u.server) (subst (λ v. x.ready v ≡ true) (sym k.app) k.ready) (subst (λ v. IsForeseenRight x v m answers) (sym k.app) right_here) own_part yes_) ∙ answered g shows yes_ plains (some_is r.answer some);
          }
        where
          answered : (g : RowsHere) → Shows g.now r → answers ≡ true → plain both.speech.emission g.now.heard ≡ acts (replies x more r) → (found : (Option R × ℕ)) × (r.answer ≡ Some found) → ends_marked (replies x more r) ≡ true
          answered g shows yes_ plains found =
              let given_so = g.moment.fits.answered (Outcome.Replied found.0.0, found.0.1) (shows.answer ∙ ap as_outcome found.1) in
              marked answers (ends_marked (replies x more r)) (Outcome.Replied found.0.0) yes_
              (ap (λ z. option_map (λ k. Outcome.Replied k) (y.speech.ends z (replies x more r))) (sym passes) ∙ ap (ends_by y.speech r.service) (sym (all_acts (replies x more r))) ∙ ap (service_ends y.speech (Service.Mails r.service)) (sym plains)
              ∙ ap (λ z. service_ends y.speech z (plain both.speech.emission g.now.heard)) (sym shows.service) ∙ given_so.1)

      no_state : (g : RowsHere) (target : ℕ) → g.now.service ≡ Service.State target → ⊥
      no_state g target e = let clash : Service.State target ≡ Service.Mails q = sym e ∙ ap (λ (k : Started (Asked M Q)). k.service) (last_same g).1 in cc

      -- AT THIS MOMENT
      pub newest_heard : IsHeard x more at m answers r
      newest_heard = elim h.carried.rows [
        | inl u ↦ absurd (none_snoc before newest (sym u.started ∙ started))
        | inr g ↦ elim g.place [
          | inl k ↦ by_mails g (subst (Shows g.now) (let some : Some k.row ≡ Some r = sym k.is ∙ now in let same : k.row ≡ r = cc in same) k.shows)
          | inr n ↦ absurd (no_state g n.target n.service)
        ]
      ]

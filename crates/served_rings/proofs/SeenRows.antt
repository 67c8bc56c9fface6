-- A SERVER THAT SEES WHAT IS MEANT by its mails is between rows or in one, at each moment of a session.
use Rattle.std.proofs.Common.{◌≡◌, ℕ, ◌==◌, ◌&&◌, Bool, true, false, Option, Some, None, List, [], ◌∷◌, ◌++◌, map, inl, inr, refl, ap, ap₂, sym, ◌∙◌, subst, append_assoc, append-nil, if◌then◌else◌}
use Rattle.served_places.specs.of_exchange_model.Prefix.{IsPrefixOf}
use Rattle.served_places.specs.of_exchange_model.Exchange.{Exchange, IsLawful, after}
use Rattle.served_places.specs.of_exchange_model.Rows.{Settled, told_all}
use Rattle.served_places.proofs.of_exchange_model.Lists.{cut}
use Rattle.served_places.proofs.of_exchange_model.Settles.{whole_ready}
use Rattle.served_places.proofs.of_exchange_model.Words.{after-append}
use Rattle.served_places.specs.of_life_model.Eras.{EraIs, OpenEra, era_frames}
use Rattle.served_places.specs.of_life_model.Lives.{Spot, Era}
use Rattle.served_places.proofs.of_life_model.Eras.{session_of, of_one}
use Rattle.run_work.specs.of_few_replies.Calm.{calm_tagged}
use Rattle.run_work.specs.of_few_replies.Clearing.{InRowOf, InRow}
use Rattle.served_places.specs.of_segment_model.Ends.{Outcome}
use Rattle.served_places.specs.of_segment_model.Record.{Frame}
use Rattle.served_places.specs.of_segment_model.Seats.{Side, Seat}
use Rattle.served_places.specs.of_segment_model.Slaves.{Registers, Processor, Slave}
use Rattle.served_places.specs.of_serving_model.Tagged.{Meant, Tagged, Asked, Rowed, more_of, told, ideal, rows_done}
use Rattle.served_places.specs.of_serving_model.TaggedStates.{told_state, tagged_states}
use Rattle.served_places.specs.of_state_model.Stated.{Stated, IsStated, Act, acts, Service, Counting, with_states}
use Rattle.served_places.proofs.of_state_model.Acts.{after_acts}
use Rattle.served_places.proofs.of_state_model.StatedLaw.{stated_law}
use Rattle.served_places.specs.of_state_model.States.{Table}
use Rattle.served_places.specs.of_state_model.Accounts.{Account}
use Rattle.served_places.proofs.of_state_model.Ghosts as Ghosts
use Rattle.served_places.proofs.of_state_model.Ghosts.{counting, Carried}
use Rattle.served_places.proofs.of_state_model.Sessions.{of_slaves}
use Rattle.served_places.proofs.of_state_model.Stately.{state_over}

both_true : (a b : Bool) → (a && b) ≡ true → a ≡ true
both_true true b e = refl
both_true false b e = absurd (let no : false ≡ true = e in cc)

-- of the acts that are mails a first part are mails
cut_mails : {M : Type 0} (ts : List M) (p r : List (Act M)) → acts ts ≡ p ++ r → (us : List M) × (vs : List M) × (p ≡ acts us) × (ts ≡ us ++ vs)
cut_mails ts [] r e = ([], ts, refl, refl)
cut_mails [] (a ∷ p) r e = absurd (let no : [] ≡ a ∷ (p ++ r) = e in cc)
cut_mails {M} (t ∷ ts) (a ∷ p) r e =
    let head : Act.Mail t ≡ a = cc in
    let c = cut_mails ts p r (let tail : acts ts ≡ p ++ r = cc in tail) in
    (t ∷ c.0, c.1, ap₂ (λ (z : Act M) (l : List (Act M)). z ∷ l) (sym head) c.2, ap (λ l. t ∷ l) c.3)

module _ {V M Q R : Type 0} (x : Exchange V V M Q R) (calm : V → Bool) (fair : M → Bool) (s : Stated V V Q) (table : Table) (lawful : IsLawful (calm_tagged x calm fair)) (stated : IsStated (calm_tagged x calm fair) (tagged_states x s)) where
  abbrev sees : Exchange (Rowed V M Q) V (Tagged M Q) (Asked M Q) (Option R)
  sees = calm_tagged x calm fair

  abbrev both : Exchange (Counting (Rowed V M Q)) (V × ℕ) (Act (Tagged M Q)) (Service (Asked M Q)) (Outcome (Option R))
  both = with_states sees (tagged_states x s) table

  -- in a row of a service
  mores_in : (w : Rowed V M Q) (q : Q) → w.hand ≡ Some q → x.ready w.base ≡ true → x.speech.valid q ≡ true → (ms : List M) (p r : List (Tagged M Q)) → x.full w.base q ≡ w.part ++ ms → map (λ m. more_of m) ms ≡ p ++ r → InRow x (after sees.serve w p)
  mores_in w q is ready valid ms [] r full e = subst (InRowOf x w) (sym is) (record { ready = ready; valid = valid; rest = ms; full = full })
  mores_in w q is ready valid [] (t ∷ p) r full e = absurd (let no : [] ≡ t ∷ (p ++ r) = e in cc)
  mores_in w q is ready valid (m ∷ ms) (t ∷ p) r full e =
      let head : more_of m ≡ t = cc in
      let tail : map (λ m. more_of m) ms ≡ p ++ r = cc in
      subst (λ k. InRow x (after sees.serve w (k ∷ p))) head (mores_in (record w { part = w.part ++ m ∷ [] }) q is ready valid ms p r (full ∙ sym (append_assoc w.part (m ∷ []) ms)) tail)

  script_in : (w : Rowed V M Q) → InRow x w → x.ready (ideal x w) ≡ true → (q : Q) → x.speech.valid q ≡ true → (ms : List M) → x.full (ideal x w) q ≡ ms → (p r : List (Tagged M Q)) → told q ms ≡ p ++ r → InRow x (after sees.serve w p)
  script_in w i ready q valid ms full [] r e = i
  script_in w i ready q valid [] full (t ∷ p) r e = absurd (let no : [] ≡ t ∷ (p ++ r) = e in cc)
  script_in w i ready q valid (m ∷ ms) full (t ∷ p) r e =
      let head : record { mail = m; meant = Meant.First q } ≡ t = cc in
      let tail : map (λ m. more_of m) ms ≡ p ++ r = cc in
      subst (λ k. InRow x (after sees.serve w (k ∷ p))) head (mores_in (record { base = ideal x w; hand = Some q; part = m ∷ []; count = rows_done x w }) q refl ready valid ms p r full tail)

  -- and behind a mail that is passed on
  passed_in : (w : Rowed V M Q) → InRow x w → (m : M) (answers : Bool) (p r : List (Tagged M Q)) → record { mail = m; meant = Meant.Alone answers } ∷ [] ≡ p ++ r → InRow x (after sees.serve w p)
  passed_in w i m answers [] r e = i
  passed_in w i m answers (t ∷ []) r e = let head : record { mail = m; meant = Meant.Alone answers } ≡ t = cc in subst (λ k. InRow x (after sees.serve w (k ∷ []))) head refl
  passed_in w i m answers (t ∷ (k ∷ p)) r e = absurd (let no : [] ≡ k ∷ (p ++ r) = cc in cc)

  row_in : (w : Rowed V M Q) → InRow x w → sees.ready w ≡ true → (q : Asked M Q) → sees.speech.valid q ≡ true → (p r : List (Tagged M Q)) → sees.full w q ≡ p ++ r → InRow x (after sees.serve w p)
  row_in w i ready (Asked.Script q) valid p r e = script_in w i (both_true (x.ready (ideal x w)) (calm (ideal x w)) ready) q valid (x.full (ideal x w) q) refl p r e
  row_in w i ready (Asked.Passed m answers) valid p r e = passed_in w i m answers p r e

  -- telling a state leaves it so
  told_in : (state : ℕ) (w : Rowed V M Q) → InRow x w → InRow x (told_state x s state w)
  told_in state w i = go (s.state (ideal x w) == state)
    where
      go : (b : Bool) → InRow x (if b then w else record { base = s.tell state (ideal x w); hand = None; part = []; count = rows_done x w })
      go true = i
      go false = refl

  -- a first part of the acts of a service
  part_in : (c : Counting (Rowed V M Q)) → InRow x c.server → both.ready c ≡ true → (q : Service (Asked M Q)) → both.speech.valid q ≡ true → (p r : List (Act (Tagged M Q))) → both.full c q ≡ p ++ r → InRow x (after both.serve c p).server
  part_in c i ready (Service.Mails q) valid p r e =
      let k = cut_mails (sees.full c.server q) p r e in
      subst (λ l. InRow x (after both.serve c l).server) (sym k.2)
      (subst (λ (z : Counting (Rowed V M Q)). InRow x z.server) (sym (after_acts sees (tagged_states x s) table c k.0)) (row_in c.server i ready q valid k.0 k.1 k.3))
  part_in c i ready (Service.State target) valid [] r e = i
  part_in c i ready (Service.State target) valid (a ∷ []) r e = let head : Act.Word target ≡ a = cc in subst (λ k. InRow x (after both.serve c (k ∷ [])).server) head (told_in _ c.server i)
  part_in c i ready (Service.State target) valid (a ∷ (k ∷ p)) r e = absurd (let no : [] ≡ k ∷ (p ++ r) = cc in cc)

  both_lawful : IsLawful both
  both_lawful = stated_law sees (tagged_states x s) table stated lawful

  abbrev GhostRow : Type 0
  GhostRow = Ghosts.GhostRow (Tagged M Q) (Asked M Q) (Option R)

  -- OF ROWS: so it is behind each first part of what was told of them
  rows_in : (c : Counting (Rowed V M Q)) → InRow x c.server → both.ready c ≡ true → (past : List GhostRow) (now : GhostRow) → both.speech.valid now.service ≡ true → Settled both c past →
      IsPrefixOf now.told (both.full (after both.serve c (told_all past)) now.service) → (p r : List (Act (Tagged M Q))) → told_all past ++ now.told ≡ p ++ r → InRow x (after both.serve c p).server
  rows_in c i ready [] now valid settled mine p r e = part_in c i ready now.service valid p (r ++ mine.0) (sym mine.1 ∙ ap (λ l. l ++ mine.0) e ∙ append_assoc p r mine.0)
  rows_in c i ready (g ∷ past) now valid settled mine p r e =
      let next = after both.serve c g.told in
      let whole = part_in c i ready g.service settled.0.valid g.told [] (sym settled.0.told ∙ sym (append-nil g.told)) in
      let again = whole_ready both both_lawful c g ready settled.0 in
      let first = subst (λ z. IsPrefixOf now.told (both.full z now.service)) (after-append both.serve c g.told (told_all past)) mine in
      elim (cut g.told (told_all past ++ now.told) p r (sym (append_assoc g.told (told_all past) now.told) ∙ e)) [
        | inl k ↦ subst (λ l. InRow x (after both.serve c l).server) (sym k.1) (subst (λ (z : Counting (Rowed V M Q)). InRow x z.server) (sym (after-append both.serve c g.told k.0))
            (rows_in next whole again past now valid settled.1 first k.0 r k.2))
        | inr k ↦ part_in c i ready g.service settled.0.valid p k.0 (sym settled.0.told ∙ k.1)
      ]

  -- the server of a seat
  carried_in : (from : ℕ) (seat : Seat (Rowed V M Q) (Tagged M Q) (Asked M Q) (Option R)) (a : Account (Asked M Q) (Option R)) → sees.ready seat.start ≡ true → InRow x seat.start → Carried sees lawful (tagged_states x s) table from seat a → InRow x seat.slave.node.server.server
  carried_in from seat a ready start c = subst (InRow x) c.serves (elim c.rows [
    | inl u ↦ subst (λ l. InRow x (after both.serve (counting seat.start) l).server) (sym u.none) start
    | inr k ↦ rows_in (counting seat.start) start ready (k.front ++ k.last) k.now k.moment.fits.valid k.moment.fits.settled k.moment.fits.mine c.taken (acts c.rest) (sym k.moment.fits.all_held)
  ])

module _ {V M Q R : Type 0} (x : Exchange V V M Q R) (calm : V → Bool) (fair : M → Bool) (s : Stated V V Q) (lawful : IsLawful (calm_tagged x calm fair)) (stated : IsStated (calm_tagged x calm fair) (tagged_states x s)) where
  -- OF AN EPOCH
  pub era_in : (seer : Processor (Rowed V M Q)) (table : ℕ → Table) (spot : Spot) (e : Era (Tagged M Q) (Asked M Q) (Option R)) (opened end : ℕ) (fs : List (Frame (Tagged M Q))) (start : Rowed V M Q) (r : Registers) (n : Slave (Rowed V M Q) (Tagged M Q)) →
      EraIs (calm_tagged x calm fair) (tagged_states x s) seer table spot e opened end fs start r n → InRow x start → InRow x n.node.server.server
  era_in seer table spot e opened end fs start r n is =
      let era : OpenEra (Rowed V M Q) V (Tagged M Q) (Asked M Q) (Option R) = record {
        exchange = calm_tagged x calm fair;
        states = tagged_states x s;
        processor = seer;
        table = table;
        spot = spot;
        era = e;
        opened = opened;
        end = end;
        frames = fs;
        server = start;
        registers = r;
        slave = n;
        lawful = lawful;
        stated = stated;
        is = is;
      } in
      let P : Table → List (Frame (Tagged M Q)) → ℕ → Rowed V M Q → Side (Tagged M Q) (Asked M Q) (Option R) → Account (Asked M Q) (Option R) → Slave (Rowed V M Q) (Tagged M Q) → Type 0 =
      (λ t gs station v d a k. InRow x v → InRow x k.node.server.server) in
      let z = session_of era in
      of_one era (λ station v d a k. P (table station) (era_frames spot opened end fs) station v d a k)
      (of_slaves z.exchange z.lawful z.states z.stated z.processor z.table (λ m. false) z.planned.tells z.plan z.planned z.sides z.accounts z.ring z.frames z.tasked P
      (λ t begun it gs seat a h begins. carried_in x calm fair s t lawful stated (state_over t begun a.over) seat a h.ready begins h.carried))

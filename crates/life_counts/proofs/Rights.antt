-- What a server that sees what is meant by its mails takes next the one that doesn't takes alike, over services by mails and of the AL state.
use Rattle.std.proofs.Common.{◌≡◌, ℕ, ◌==◌, ◌&&◌, Bool, true, false, not, None, List, [], ◌∷◌, ◌++◌, map, refl, ap, ap₂, sym, ◌∙◌, subst, inl, inr, append_assoc, append-nil, if◌then◌else◌}
use Rattle.std.specs.Prelude.{⊤, Option}
use Rattle.master_hand.specs.of_exchange_model.Prefix.{IsPrefixOf}
use Rattle.master_hand.specs.of_exchange_model.Exchange.{Exchange, IsLawful, after, given}
use Rattle.master_hand.specs.of_exchange_model.Rows.{Row, IsWhole, Settled, told_all, services}
use Rattle.master_hand.proofs.of_exchange_model.Lists.{cut}
use Rattle.master_hand.proofs.of_exchange_model.Settles.{whole_behind, whole_ready}
use Rattle.master_hand.proofs.of_exchange_model.Words.{after-append}
use Rattle.few_replies.specs.Calm.{calm_tagged}
use Rattle.few_replies.specs.Client.{ByContents}
use Rattle.few_replies.specs.Silent.{IsForeseenRight}
use Rattle.master_hand.specs.of_segment_model.Ends.{Outcome}
use Rattle.master_hand.specs.of_serving_model.Tagged.{IsServed, Meant, Tagged, Asked, untag, more_of, told, gift, own_gift, is_own, no_reply, last_gifts, answer_gifts, Rowed, real, ideal, tagged, serve_tagged}
use Rattle.master_hand.specs.of_serving_model.TaggedStates.{told_state, tagged_states}
use Rattle.few_replies.proofs.of_serving_model.Erased.{rows_is}
use Rattle.few_replies.proofs.of_serving_model.TaggedLaw.{untag-told, untag-gift, own-gift}
use Rattle.master_hand.specs.of_state_model.Stated.{Stated, IsStated, Act, acts, Service, Counting, with_states}
use Rattle.few_replies.proofs.of_state_model.Acts.{after_acts}
use Rattle.few_replies.proofs.of_state_model.StatedLaw.{stated_law}
use Rattle.master_hand.specs.of_state_model.Promises.{state_behind}
use Rattle.master_hand.specs.of_state_model.States.{Table}
use Rattle.life_counts.specs.Foreseen.{IsRightAt, AllRight}

left_of : (a b : Bool) → (a && b) ≡ true → a ≡ true
left_of true b e = refl
left_of false b e = absurd (let no : false ≡ true = e in cc)

-- what is meant by a gift is told by its contents
owns_tell : {M : Type 0} (Q : Type 0) (e : M → Bool) (ms : List M) → no_reply e ms ≡ true → ByContents e (map (λ m. own_gift {Q = Q} m) ms)
owns_tell Q e [] none = tt
owns_tell Q e (m ∷ ms) none = go (e m) refl none (λ rest. owns_tell Q e ms rest)
  where
    go : (b : Bool) → e m ≡ b → (if b then no_reply e ms else false) ≡ true → (no_reply e ms ≡ true → ByContents e (map (λ m. own_gift {Q = Q} m) ms)) → ByContents e (map (λ m. own_gift {Q = Q} m) (m ∷ ms))
    go true is none rest = (sym is, rest none)
    go false is none rest = absurd (let no : false ≡ true = none in cc)

pub lasts_tell : {M : Type 0} (Q : Type 0) (e : M → Bool) (ms : List M) → ByContents e (last_gifts {Q = Q} e ms)
lasts_tell Q e [] = tt
lasts_tell Q e (m ∷ ms) = (go (e m), lasts_tell Q e ms)
  where
    go : (b : Bool) → is_own {Q = Q} (if b then Meant.Own else Meant.Reply (no_reply e ms)) ≡ b
    go true = refl
    go false = refl

gifts_tell : {M : Type 0} (Q : Type 0) (e : M → Bool) (ms : List M) → ByContents e (map (λ g. gift {Q = Q} e g) ms)
gifts_tell Q e [] = tt
gifts_tell Q e (m ∷ ms) = (own-gift Q e m, gifts_tell Q e ms)

pub untag-last : {M : Type 0} (Q : Type 0) (e : M → Bool) (ms : List M) → untag (last_gifts {Q = Q} e ms) ≡ ms
untag-last Q e [] = refl
untag-last Q e (m ∷ ms) = ap (λ l. m ∷ l) (untag-last Q e ms)

untag-own : {M : Type 0} (Q : Type 0) (ms : List M) → untag (map (λ m. own_gift {Q = Q} m) ms) ≡ ms
untag-own Q [] = refl
untag-own Q (m ∷ ms) = ap (λ l. m ∷ l) (untag-own Q ms)

module _ {V M Q R : Type 0} (x : Exchange V V M Q R) where
  -- A SERVER BETWEEN ROWS
  abbrev pub Between : Rowed V M Q → Type 0
  Between w = ideal x w ≡ real x w

  -- WHAT IT TAKES NEXT: one more mail of its row; or, between rows, the first of a service, or a mail that is passed on and foreseen right
  pub data IsRight (w : Rowed V M Q) : Tagged M Q → Type 0 where
    first : (m : M) (q : Q) → Between w → IsRight w (record { mail = m; meant = Meant.First q })
    more : (m : M) → IsRight w (more_of m)
    alone : (m : M) (answers : Bool) → Between w → IsForeseenRight x (ideal x w) m answers → IsRight w (record { mail = m; meant = Meant.Alone answers })

  -- both servers take it alike
  pub record Alike (w : Rowed V M Q) (t : Tagged M Q) : Type 0 where
    pub server : real x (serve_tagged x w t.mail t.meant).0 ≡ (x.serve (real x w) t.mail).0
    pub gives : untag (serve_tagged x w t.mail t.meant).1 ≡ (x.serve (real x w) t.mail).1

  pub alike : (w : Rowed V M Q) (t : Tagged M Q) → IsRight w t → Alike w t
  alike w _ (IsRight.first m q same) = record {
    server = ap (λ v. (x.serve v m).0) same;
    gives = untag-gift Q x.speech.emission (x.serve (ideal x w) m).1 ∙ ap (λ v. (x.serve v m).1) same;
  }
  alike w _ (IsRight.more m) = record {
    server = after-append x.serve w.base w.part (m ∷ []);
    gives = untag-gift Q x.speech.emission (x.serve (real x w) m).1;
  }
  alike w _ (IsRight.alone m answers same right) = record {
    server = ap (λ v. (x.serve v m).0) same;
    gives = go answers right ∙ ap (λ v. (x.serve v m).1) same;
  }
    where
      gs : List M
      gs = (x.serve (ideal x w) m).1

      loud : (b : Bool) → true ≡ not b → untag (if b then record { mail = m; meant = Meant.Reply true } ∷ last_gifts {Q = Q} x.speech.emission gs else last_gifts {Q = Q} x.speech.emission gs) ≡ gs
      loud true e = absurd (let no : true ≡ false = e in cc)
      loud false e = untag-last Q x.speech.emission gs

      go : (b : Bool) → b ≡ not (no_reply x.speech.emission gs) → untag (if b then answer_gifts {Q = Q} x.speech.emission m gs else map (λ g. own_gift {Q = Q} g) gs) ≡ gs
      go true e = loud (no_reply x.speech.emission gs) e
      go false e = untag-own Q gs

  -- what it gives for it is told by its contents
  pub tells : (w : Rowed V M Q) (t : Tagged M Q) → IsRight w t → ByContents x.speech.emission (serve_tagged x w t.mail t.meant).1
  tells w _ (IsRight.first m q same) = gifts_tell Q x.speech.emission (x.serve (ideal x w) m).1
  tells w _ (IsRight.more m) = gifts_tell Q x.speech.emission (x.serve (real x w) m).1
  tells w _ (IsRight.alone m answers same right) = go answers right
    where
      gs : List M
      gs = (x.serve (ideal x w) m).1

      loud : (b : Bool) → true ≡ not b → ByContents x.speech.emission (if b then record { mail = m; meant = Meant.Reply true } ∷ last_gifts {Q = Q} x.speech.emission gs else last_gifts {Q = Q} x.speech.emission gs)
      loud true e = absurd (let no : true ≡ false = e in cc)
      loud false e = lasts_tell Q x.speech.emission gs

      quiet : (b : Bool) → false ≡ not b → b ≡ true
      quiet true e = refl
      quiet false e = absurd (let no : false ≡ true = e in cc)

      go : (b : Bool) → b ≡ not (no_reply x.speech.emission gs) → ByContents x.speech.emission (if b then answer_gifts {Q = Q} x.speech.emission m gs else map (λ g. own_gift {Q = Q} g) gs)
      go true e = loud (no_reply x.speech.emission gs) e
      go false e = owns_tell Q x.speech.emission gs (quiet (no_reply x.speech.emission gs) e)

  -- ---- a row
  mores : (w : Rowed V M Q) (ms : List M) (p : List (Tagged M Q)) (t : Tagged M Q) (r : List (Tagged M Q)) → map (λ m. more_of m) ms ≡ p ++ t ∷ r → IsRight w t
  mores w [] [] t r e = absurd (let no : [] ≡ t ∷ r = e in cc)
  mores w [] (u ∷ p) t r e = absurd (let no : [] ≡ u ∷ (p ++ t ∷ r) = e in cc)
  mores w (m ∷ ms) [] t r e = let is : more_of m ≡ t = cc in subst (IsRight w) is (IsRight.more m)
  mores w (m ∷ ms) (u ∷ p) t r e = mores w ms p t r (let tail : map (λ m. more_of m) ms ≡ p ++ t ∷ r = cc in tail)

  scripts : (w : Rowed V M Q) → Between w → (q : Q) (ms : List M) (p : List (Tagged M Q)) (t : Tagged M Q) (r : List (Tagged M Q)) → told q ms ≡ p ++ t ∷ r → IsRight (after (tagged x).serve w p) t
  scripts w same q [] [] t r e = absurd (let no : [] ≡ t ∷ r = e in cc)
  scripts w same q [] (u ∷ p) t r e = absurd (let no : [] ≡ u ∷ (p ++ t ∷ r) = e in cc)
  scripts w same q (m ∷ ms) [] t r e = let is : record { mail = m; meant = Meant.First q } ≡ t = cc in subst (IsRight w) is (IsRight.first m q same)
  scripts w same q (m ∷ ms) (u ∷ p) t r e = mores (after (tagged x).serve w (u ∷ p)) ms p t r (let tail : map (λ m. more_of m) ms ≡ p ++ t ∷ r = cc in tail)

  pub row_right : (w : Rowed V M Q) → Between w → (s : Stated V V Q) (table : Table) (q : Asked M Q) → IsRightAt x s table (ideal x w) q → (p : List (Tagged M Q)) (t : Tagged M Q) (r : List (Tagged M Q)) → (tagged x).full w q ≡ p ++ t ∷ r →
      IsRight (after (tagged x).serve w p) t
  row_right w same s table (Asked.Script q) right p t r e = scripts w same q (x.full (ideal x w) q) p t r e
  row_right w same s table (Asked.Passed m answers) right [] t r e = let is : record { mail = m; meant = Meant.Alone answers } ≡ t = cc in subst (IsRight w) is (IsRight.alone m answers same right)
  row_right w same s table (Asked.Passed m answers) right (u ∷ p) t r e = absurd (none p (let tail : [] ≡ p ++ t ∷ r = cc in tail))
    where
      none : (p : List (Tagged M Q)) → [] ≡ p ++ t ∷ r → ⊥
      none [] e = (let no : [] ≡ t ∷ r = e in cc)
      none (k ∷ p) e = (let no : [] ≡ k ∷ (p ++ t ∷ r) = e in cc)

module _ {V M Q R C : Type 0} (x : Exchange V V M Q R) (core : V → C) (law : IsServed x core) (calm : V → Bool) (fair : M → Bool) (s : Stated V V Q) (table : Table) (lawful : IsLawful (calm_tagged x calm fair)) (stated : IsStated (calm_tagged x calm fair) (tagged_states x s)) where
  abbrev pub sees : Exchange (Rowed V M Q) V (Tagged M Q) (Asked M Q) (Option R)
  sees = calm_tagged x calm fair

  abbrev pub both : Exchange (Counting (Rowed V M Q)) (V × ℕ) (Act (Tagged M Q)) (Service (Asked M Q)) (Outcome (Option R))
  both = with_states sees (tagged_states x s) table

  both_lawful : IsLawful both
  both_lawful = stated_law sees (tagged_states x s) table stated lawful

  -- a whole row leaves it between rows
  full_between : (w : Rowed V M Q) → Between x w → (q : Asked M Q) → sees.ready w ≡ true → sees.speech.valid q ≡ true → Between x (after sees.serve w (sees.full w q))
  full_between w same (Asked.Script q) ready valid =
      let full = told q (x.full (ideal x w) q) in
      let row : Row (Tagged M Q) (Asked M Q) (Option R) = record { service = Asked.Script q; frame = 0; told = full; heard = []; answer = None } in
      let is = rows_is x core law w [] row full [] same (left_of (x.ready (ideal x w)) (calm (ideal x w)) ready) tt tt ([], append-nil full) (sym (append-nil full)) in
      (lawful.whole w (Asked.Script q) ready valid).app ∙ sym (law.whole (ideal x w) q (left_of (x.ready (ideal x w)) (calm (ideal x w)) ready) valid)
      ∙ ap₂ (λ (v : V) (l : List M). after x.serve v l) same (sym (untag-told q (x.full (ideal x w) q))) ∙ sym is.server
  full_between w same (Asked.Passed m answers) ready valid = refl

  -- telling a state leaves it so
  pub told_between : (state : ℕ) (w : Rowed V M Q) → Between x w → Between x (told_state x s state w)
  told_between state w same = go (s.state (ideal x w) == state)
    where
      go : (b : Bool) → Between x (if b then w else record { base = s.tell state (ideal x w); hand = None; part = []; count = Rattle.master_hand.specs.of_serving_model.Tagged.rows_done x w })
      go true = same
      go false = refl

  abbrev GhostRow : Type 0
  GhostRow = Row (Act (Tagged M Q)) (Service (Asked M Q)) (Outcome (Option R))

  row_between : (c : Counting (Rowed V M Q)) → Between x c.server → both.ready c ≡ true → (g : GhostRow) → IsWhole both c g → Between x (after both.serve c g.told).server
  row_between c same ready g whole = subst (λ l. Between x (after both.serve c l).server) (sym whole.told) (go g.service whole.valid)
    where
      go : (q : Service (Asked M Q)) → both.speech.valid q ≡ true → Between x (after both.serve c (both.full c q)).server
      go (Service.Mails q) valid = subst (λ (k : Counting (Rowed V M Q)). Between x k.server) (sym (after_acts sees (tagged_states x s) table c (sees.full c.server q))) (full_between c.server same q ready valid)
      go (Service.State target) valid = told_between (state_behind table (s.state (ideal x c.server)) target) c.server same

  pub rows_between : (c : Counting (Rowed V M Q)) → Between x c.server → both.ready c ≡ true → (past : List GhostRow) → Settled both c past → Between x (after both.serve c (told_all past)).server
  rows_between c same ready [] settled = same
  rows_between c same ready (g ∷ past) settled =
      subst (λ (k : Counting (Rowed V M Q)). Between x k.server) (sym (after-append both.serve c g.told (told_all past)))
      (rows_between (after both.serve c g.told) (row_between c same ready g settled.0) (whole_ready both both_lawful c g ready settled.0) past settled.1)

  -- ---- what comes next of rows
  cut_acts : (ts : List (Tagged M Q)) (p : List (Act (Tagged M Q))) (t : Tagged M Q) (r : List (Act (Tagged M Q))) → acts ts ≡ p ++ Act.Mail t ∷ r →
      (us : List (Tagged M Q)) × (vs : List (Tagged M Q)) × (p ≡ acts us) × (ts ≡ us ++ t ∷ vs)
  cut_acts [] [] t r e = absurd (let no : [] ≡ Act.Mail t ∷ r = e in cc)
  cut_acts [] (a ∷ p) t r e = absurd (let no : [] ≡ a ∷ (p ++ Act.Mail t ∷ r) = e in cc)
  cut_acts (k ∷ ts) [] t r e = let head : Act.Mail k ≡ Act.Mail t = cc in let same : k ≡ t = cc in ([], ts, refl, ap (λ z. z ∷ ts) same)
  cut_acts (k ∷ ts) (a ∷ p) t r e =
      let head : Act.Mail k ≡ a = cc in
      let c = cut_acts ts p t r (let tail : acts ts ≡ p ++ Act.Mail t ∷ r = cc in tail) in
      (k ∷ c.0, c.1, ap₂ (λ (z : Act (Tagged M Q)) (l : List (Act (Tagged M Q))). z ∷ l) (sym head) c.2, ap (λ l. k ∷ l) c.3)

  abbrev IsRightIn : V → Service (Asked M Q) → Type 0
  IsRightIn v q = AllRight x s table v (q ∷ [])

  part_right : (c : Counting (Rowed V M Q)) → Between x c.server → (q : Service (Asked M Q)) → IsRightIn (ideal x c.server) q → (p : List (Act (Tagged M Q))) (t : Tagged M Q) (r : List (Act (Tagged M Q))) → both.full c q ≡ p ++ Act.Mail t ∷ r →
      IsRight x (after both.serve c p).server t
  part_right c same (Service.Mails q) right p t r e =
      let k = cut_acts (sees.full c.server q) p t r e in
      subst (λ l. IsRight x (after both.serve c l).server t) (sym k.2)
      (subst (λ (z : Counting (Rowed V M Q)). IsRight x z.server t) (sym (after_acts sees (tagged_states x s) table c k.0)) (row_right x c.server same s table q right.0 k.0 t k.1 k.3))
  part_right c same (Service.State target) right [] t r e = absurd (let no : Act.Word target ≡ Act.Mail t = cc in cc)
  part_right c same (Service.State target) right (a ∷ p) t r e = absurd (none p (let tail : [] ≡ p ++ Act.Mail t ∷ r = cc in tail))
    where
      none : (p : List (Act (Tagged M Q))) → [] ≡ p ++ Act.Mail t ∷ r → ⊥
      none [] e = (let no : [] ≡ Act.Mail t ∷ r = e in cc)
      none (k ∷ p) e = (let no : [] ≡ k ∷ (p ++ Act.Mail t ∷ r) = e in cc)

  -- of services the first, and those behind it at the server that it leaves
  first_right : (v : V) (q : Service (Asked M Q)) (qs : List (Service (Asked M Q))) → AllRight x s table v (q ∷ qs) → IsRightIn v q
  first_right v (Service.Mails q) qs right = (right.0, tt)
  first_right v (Service.State target) qs right = tt

  later_right : (v : V) (n : ℕ) (q : Service (Asked M Q)) (qs : List (Service (Asked M Q))) → AllRight x s table v (q ∷ qs) → AllRight x s table (both.exec (v, n) q).0 qs
  later_right v n (Service.Mails q) qs right = right.1
  later_right v n (Service.State target) qs right = right

  -- in the first of these rows, or behind it
  of_rows : (c : Counting (Rowed V M Q)) → Between x c.server → (g : GhostRow) → IsWhole both c g → IsRightIn (ideal x c.server) g.service → (behind p : List (Act (Tagged M Q))) (t : Tagged M Q) (r : List (Act (Tagged M Q))) → g.told ++ behind ≡ p ++ Act.Mail t ∷ r →
      ((b : List (Act (Tagged M Q))) → behind ≡ b ++ Act.Mail t ∷ r → IsRight x (after both.serve (after both.serve c g.told) b).server t) → IsRight x (after both.serve c p).server t
  of_rows c same g whole right behind p t r e rest = elim (cut g.told behind p (Act.Mail t ∷ r) e) [
    | inl k ↦ later k.0 k.1 k.2
    | inr k ↦ within k.0 k.1 k.2
  ]
    where
      later : (b : List (Act (Tagged M Q))) → p ≡ g.told ++ b → behind ≡ b ++ Act.Mail t ∷ r → IsRight x (after both.serve c p).server t
      later b k f = subst (λ l. IsRight x (after both.serve c l).server t) (sym k) (subst (λ (z : Counting (Rowed V M Q)). IsRight x z.server t) (sym (after-append both.serve c g.told b)) (rest b f))

      within : (m : List (Act (Tagged M Q))) → g.told ≡ p ++ m → Act.Mail t ∷ r ≡ m ++ behind → IsRight x (after both.serve c p).server t
      within [] k f = later [] (sym (append-nil p) ∙ sym k ∙ sym (append-nil g.told)) (sym f)
      within (a ∷ m) k f = let head : Act.Mail t ≡ a = cc in part_right c same g.service right p t m (sym whole.told ∙ k ∙ ap (λ z. p ++ z ∷ m) (sym head))

  -- THE NEXT MAIL OF ROWS is taken alike
  pub next_right : (c : Counting (Rowed V M Q)) → Between x c.server → both.ready c ≡ true → (past : List GhostRow) (now : GhostRow) → Settled both c past → AllRight x s table (ideal x c.server) (services (past ++ now ∷ [])) →
      IsPrefixOf now.told (both.full (after both.serve c (told_all past)) now.service) → (p : List (Act (Tagged M Q))) (t : Tagged M Q) (r : List (Act (Tagged M Q))) → told_all past ++ now.told ≡ p ++ Act.Mail t ∷ r →
      IsRight x (after both.serve c p).server t
  next_right c same ready [] now settled right mine p t r e =
      part_right c same now.service (first_right (ideal x c.server) now.service [] right) p t (r ++ mine.0) (sym mine.1 ∙ ap (λ l. l ++ mine.0) e ∙ append_assoc p (Act.Mail t ∷ r) mine.0)
  next_right c same ready (g ∷ past) now settled right mine p t r e =
      let next = after both.serve c g.told in
      let app : ideal x next.server ≡ (both.exec (ideal x c.server, c.words) g.service).0 = ap (λ k. k.0) (whole_behind both both_lawful c g ready settled.0).app in
      of_rows c same g settled.0 (first_right (ideal x c.server) g.service (services (past ++ now ∷ [])) right) (told_all past ++ now.told) p t r (sym (append_assoc g.told (told_all past) now.told) ∙ e)
      (λ b f. next_right next (row_between c same ready g settled.0) (whole_ready both both_lawful c g ready settled.0) past now settled.1
      (subst (λ v. AllRight x s table v (services (past ++ now ∷ []))) (sym app) (later_right (ideal x c.server) c.words g.service (services (past ++ now ∷ [])) right))
      (subst (λ u. IsPrefixOf now.told (both.full u now.service)) (after-append both.serve c g.told (told_all past)) mine) b t r f)

  -- WHAT IS GIVEN for mails that are each taken right is told by its contents
  abbrev pub ActsTell : List (Act (Tagged M Q)) → Type 0
  ActsTell [] = ⊤
  ActsTell (Act.Mail t ∷ as') = (is_own t.meant ≡ x.speech.emission t.mail) × ActsTell as'
  ActsTell (Act.Word target ∷ as') = ActsTell as'

  acts_tell : (ts : List (Tagged M Q)) (as' : List (Act (Tagged M Q))) → ByContents x.speech.emission ts → ActsTell as' → ActsTell (acts ts ++ as')
  acts_tell [] as' by rest = rest
  acts_tell (t ∷ ts) as' by rest = (by.0, acts_tell ts as' by.1 rest)

  front_tells : (as' bs : List (Act (Tagged M Q))) → ActsTell (as' ++ bs) → ActsTell as'
  front_tells [] bs all = tt
  front_tells (Act.Mail t ∷ as') bs all = (all.0, front_tells as' bs all.1)
  front_tells (Act.Word target ∷ as') bs all = front_tells as' bs all

  tell_acts : (ts : List (Tagged M Q)) → ActsTell (acts ts) → ByContents x.speech.emission ts
  tell_acts [] all = tt
  tell_acts (t ∷ ts) all = (all.0, tell_acts ts all.1)

  given_tells : (c : Counting (Rowed V M Q)) (taken : List (Act (Tagged M Q))) → ((p : List (Act (Tagged M Q))) (t : Tagged M Q) (r : List (Act (Tagged M Q))) → taken ≡ p ++ Act.Mail t ∷ r → IsRight x (after both.serve c p).server t) → ActsTell (given both.serve c taken)
  given_tells c [] right = tt
  given_tells c (Act.Mail t ∷ taken) right =
      acts_tell (sees.serve c.server t).1 (given both.serve (both.serve c (Act.Mail t)).0 taken) (tells x c.server t (right [] t taken refl))
      (given_tells (both.serve c (Act.Mail t)).0 taken (λ p k r e. right (Act.Mail t ∷ p) k r (ap (λ l. Act.Mail t ∷ l) e)))
  given_tells c (Act.Word target ∷ taken) right = given_tells (both.serve c (Act.Word target)).0 taken (λ p k r e. right (Act.Word target ∷ p) k r (ap (λ l. Act.Word target ∷ l) e))

  -- so what was accepted of it is
  pub accepted_tells : (c : Counting (Rowed V M Q)) (taken : List (Act (Tagged M Q))) (accepted : List (Tagged M Q)) → IsPrefixOf (acts accepted) (given both.serve c taken) →
      ((p : List (Act (Tagged M Q))) (t : Tagged M Q) (r : List (Act (Tagged M Q))) → taken ≡ p ++ Act.Mail t ∷ r → IsRight x (after both.serve c p).server t) → ByContents x.speech.emission accepted
  accepted_tells c taken accepted part right = tell_acts accepted (front_tells (acts accepted) part.0 (subst ActsTell (sym part.1) (given_tells c taken right)))

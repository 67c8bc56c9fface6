-- Mails as what a server takes, and what an exchange with states makes of them.
use Rattle.std.proofs.Common.{◌≡◌, ℕ, suc, ◌+◌, Bool, not, List, [], ◌∷◌, ◌++◌, filter, length, drop, Option, None, Some, option_map, refl, sym, ap, ap₂, ◌∙◌, arith}
use Rattle.std.proofs.lemmas.List.{map-append, length-map}
use Rattle.std.specs.List.{drop-map}
use Rattle.segment_model.specs.of_exchange_model.Prefix.{IsPrefixOf}
use Rattle.segment_model.specs.of_exchange_model.Exchange.{Exchange, after, given, plain, emitted}
use Rattle.segment_model.specs.of_exchange_model.Rows.{Row, left, exec_all}
use Rattle.segment_model.proofs.of_exchange_model.Lists.{drop_past, filter_mapped}
use Rattle.segment_model.specs.Ends.{Outcome}
use Rattle.state_model.specs.States.{Table}
use Rattle.state_model.specs.Promises.{state_behind}
use Rattle.state_model.specs.Stated.{Stated, IsStated, Act, Service, Counting, acts, mails, all_mails, act_emission, planned_by, serve_act, states_in, with_states}

-- LISTS OF MAILS AS ACTS

pub acts_append : {M : Type 0} (ms ns : List M) → acts (ms ++ ns) ≡ acts ms ++ acts ns
acts_append ms ns = map-append (λ m. Act.Mail m) ms ns

pub acts_length : {M : Type 0} (ms : List M) → length (acts ms) ≡ length ms
acts_length ms = length-map ms (λ m. Act.Mail m)

pub acts_drop : {M : Type 0} (n : ℕ) (ms : List M) → drop n (acts ms) ≡ acts (drop n ms)
acts_drop n ms = drop-map (λ m. Act.Mail m) n ms

pub mails_acts : {M : Type 0} (ms : List M) → mails (acts ms) ≡ ms
mails_acts [] = refl
mails_acts (m ∷ ms) = ap (λ l. m ∷ l) (mails_acts ms)

pub mails_append : {M : Type 0} (before behind : List (Act M)) → mails (before ++ behind) ≡ mails before ++ mails behind
mails_append [] behind = refl
mails_append (Act.Mail m ∷ before) behind = ap (λ l. m ∷ l) (mails_append before behind)
mails_append (Act.Word target ∷ before) behind = mails_append before behind

pub acts_same : {M : Type 0} (ms ns : List M) → acts ms ≡ acts ns → ms ≡ ns
acts_same ms ns e = sym (mails_acts ms) ∙ ap mails e ∙ mails_acts ns

pub all_acts : {M : Type 0} (ms : List M) → all_mails (acts ms) ≡ Some ms
all_acts [] = refl
all_acts (m ∷ ms) = ap (λ found. option_map (λ l. m ∷ l) found) (all_acts ms)

acts_found : {M : Type 0} (m : M) (taken : List (Act M)) (found : Option (List M)) (ms : List M) → ((ns : List M) → found ≡ Some ns → taken ≡ acts ns) →
    option_map (λ l. m ∷ l) found ≡ Some ms → Act.Mail m ∷ taken ≡ acts ms
acts_found m taken None ms known e = absurd (cc)
acts_found m taken (Some ns) ms known e = let same : m ∷ ns ≡ ms = cc in ap (λ l. Act.Mail m ∷ l) (known ns refl) ∙ ap acts same

pub acts_all : {M : Type 0} (taken : List (Act M)) (ms : List M) → all_mails taken ≡ Some ms → taken ≡ acts ms
acts_all [] ms e = let same : [] ≡ ms = cc in ap acts same
acts_all (Act.Word target ∷ taken) ms e = absurd (cc)
acts_all (Act.Mail m ∷ taken) ms e = acts_found m taken (all_mails taken) ms (λ ns. acts_all taken ns) e

map_same : {X : Type 0} (found : Option (List X)) → found ≡ option_map (λ l. [] ++ l) found
map_same None = refl
map_same (Some ns) = refl

map_twice : {X : Type 0} (m : X) (ms : List X) (found : Option (List X)) → option_map (λ l. m ∷ l) (option_map (λ l. ms ++ l) found) ≡ option_map (λ l. (m ∷ ms) ++ l) found
map_twice m ms None = refl
map_twice m ms (Some ns) = refl

-- behind mails all are mails where the rest are
pub all_behind : {M : Type 0} (ms : List M) (rest : List (Act M)) → all_mails (acts ms ++ rest) ≡ option_map (λ l. ms ++ l) (all_mails rest)
all_behind [] rest = map_same (all_mails rest)
all_behind (m ∷ ms) rest = ap (λ found. option_map (λ l. m ∷ l) found) (all_behind ms rest) ∙ map_twice m ms (all_mails rest)

pub acts_begin : {M : Type 0} (ms ns : List M) → IsPrefixOf ms ns → IsPrefixOf (acts ms) (acts ns)
acts_begin ms ns h = (acts h.0, sym (acts_append ms h.0) ∙ ap acts h.1)

pub begin_acts : {M : Type 0} (ms ns : List M) → IsPrefixOf (acts ms) (acts ns) → IsPrefixOf ms ns
begin_acts ms ns h =
    (mails h.0, ap (λ l. l ++ mails h.0) (sym (mails_acts ms)) ∙ sym (mails_append (acts ms) h.0) ∙ ap mails h.1 ∙ mails_acts ns)

-- where mails are cut, both parts are mails
pub front_acts : {M : Type 0} (ms : List M) (front rest : List (Act M)) → acts ms ≡ front ++ rest → acts (mails front) ≡ front
front_acts ms [] rest e = refl
front_acts [] (a ∷ front) rest e = absurd (cc)
front_acts (m ∷ ms) (a ∷ front) rest e =
    let head : Act.Mail m ≡ a = cc in
    let tail : acts ms ≡ front ++ rest = cc in
    ap (λ b. acts (mails (b ∷ front))) (sym head) ∙ ap₂ (λ (b : Act _) (l : List (Act _)). b ∷ l) head (front_acts ms front rest tail)

pub rest_acts : {M : Type 0} (ms : List M) (front rest : List (Act M)) → acts ms ≡ front ++ rest → acts (mails rest) ≡ rest
rest_acts ms [] rest e = ap (λ l. acts (mails l)) (sym e) ∙ ap acts (mails_acts ms) ∙ e
rest_acts [] (a ∷ front) rest e = absurd (cc)
rest_acts (m ∷ ms) (a ∷ front) rest e =
    let tail : acts ms ≡ front ++ rest = cc in
    rest_acts ms front rest tail

pub cut_mails : {M : Type 0} (ms : List M) (front rest : List (Act M)) → acts ms ≡ front ++ rest → ms ≡ mails front ++ mails rest
cut_mails ms front rest e = sym (mails_acts ms) ∙ ap mails e ∙ mails_append front rest

-- a test of acts that is one of their mails keeps the same ones
pub filter_acts : {M : Type 0} (p : Act M → Bool) (ms : List M) → filter p (acts ms) ≡ acts (filter (λ m. p (Act.Mail m)) ms)
filter_acts p ms = filter_mapped (λ m. Act.Mail m) p ms

pub plain_acts : {M : Type 0} (emission : M → Bool) (ms : List M) → plain (act_emission emission) (acts ms) ≡ acts (plain emission ms)
plain_acts emission ms = filter_acts (λ a. not (act_emission emission a)) ms

pub emitted_acts : {M : Type 0} (emission : M → Bool) (ms : List M) → emitted (act_emission emission) (acts ms) ≡ acts (emitted emission ms)
emitted_acts emission ms = filter_acts (act_emission emission) ms

-- THE SERVER BEHIND ACTS

module _ {V A M Q R : Type 0} (x : Exchange V A M Q R) (s : Stated V A Q) (table : Table) where
  -- mails are taken as without states, and no control word is carried out
  pub after_acts : (c : Counting V) (ms : List M) → after (with_states x s table).serve c (acts ms) ≡ record { server = after x.serve c.server ms; words = c.words }
  after_acts c [] = refl
  after_acts c (m ∷ ms) = after_acts (record c { server = (x.serve c.server m).0 }) ms

  pub given_acts : (c : Counting V) (ms : List M) → given (with_states x s table).serve c (acts ms) ≡ acts (given x.serve c.server ms)
  given_acts c [] = refl
  given_acts c (m ∷ ms) =
      ap (λ l. acts (x.serve c.server m).1 ++ l) (given_acts (record c { server = (x.serve c.server m).0 }) ms)
      ∙ sym (acts_append (x.serve c.server m).1 (given x.serve (x.serve c.server m).0 ms))

  pub plain_given_acts : (c : Counting V) (ms : List M) →
      plain (act_emission x.speech.emission) (given (with_states x s table).serve c (acts ms)) ≡ acts (plain x.speech.emission (given x.serve c.server ms))
  plain_given_acts c ms = ap (plain (act_emission x.speech.emission)) (given_acts c ms) ∙ plain_acts x.speech.emission (given x.serve c.server ms)

  pub emitted_given_acts : (c : Counting V) (ms : List M) →
      emitted (act_emission x.speech.emission) (given (with_states x s table).serve c (acts ms)) ≡ acts (emitted x.speech.emission (given x.serve c.server ms))
  emitted_given_acts c ms = ap (emitted (act_emission x.speech.emission)) (given_acts c ms) ∙ emitted_acts x.speech.emission (given x.serve c.server ms)

  -- all that a server gives are mails
  pub given_mails : (c : Counting V) (taken : List (Act M)) → acts (mails (given (with_states x s table).serve c taken)) ≡ given (with_states x s table).serve c taken
  given_mails c [] = refl
  given_mails c (Act.Mail m ∷ taken) =
      let next = record c { server = (x.serve c.server m).0 } in
      let later = given (with_states x s table).serve next taken in
      ap acts (mails_append (acts (x.serve c.server m).1) later) ∙ acts_append (mails (acts (x.serve c.server m).1)) (mails later)
      ∙ ap₂ (λ (l k : List (Act M)). l ++ k) (ap acts (mails_acts (x.serve c.server m).1)) (given_mails next taken)
  given_mails c (Act.Word target ∷ taken) = given_mails (serve_act x s table c (Act.Word target)).0 taken

  module _ (stated : IsStated x s) where
    stays_all : (v : V) (ms : List M) → s.state (x.app (after x.serve v ms)) ≡ s.state (x.app v)
    stays_all v [] = refl
    stays_all v (m ∷ ms) = stays_all (x.serve v m).0 ms ∙ stated.stays v m

    -- mails leave the AL state
    pub state_kept : (c : Counting V) (ms : List M) → s.state (x.app (after (with_states x s table).serve c (acts ms)).server) ≡ s.state (x.app c.server)
    state_kept c ms = ap (λ (d : Counting V). s.state (x.app d.server)) (after_acts c ms) ∙ stays_all c.server ms

    -- a control word brings the one behind it
    pub state_worded : (c : Counting V) (target : ℕ) →
        s.state (x.app (after (with_states x s table).serve c (Act.Word target ∷ [])).server) ≡ state_behind table (s.state (x.app c.server)) target
    state_worded c target =
        let to = state_behind table (s.state (x.app c.server)) target in
        ap s.state (stated.app to c.server) ∙ stated.is to (x.app c.server)

  -- WHAT SERVICES DO

  -- the second part of what they leave counts the state services among them
  pub executed : (a : A) (k : ℕ) (qs : List (Service Q)) → (exec_all (with_states x s table) (a, k) qs).1 ≡ k + states_in qs
  executed a k [] = omega arith
  executed a k (Service.Mails q ∷ qs) = executed (x.exec a q) k qs
  executed a k (Service.State target ∷ qs) = let more = executed (s.told (state_behind table (s.state a) target) a) (suc k) qs in omega (arith, more)

  -- and the first part doesn't depend on it
  pub executed_same : (a : A) (k n : ℕ) (qs : List (Service Q)) → (exec_all (with_states x s table) (a, k) qs).0 ≡ (exec_all (with_states x s table) (a, n) qs).0
  executed_same a k n [] = refl
  executed_same a k n (Service.Mails q ∷ qs) = executed_same (x.exec a q) k n qs
  executed_same a k n (Service.State target ∷ qs) = executed_same (s.told (state_behind table (s.state a) target) a) (suc k) (suc n) qs

  -- WHAT A ROW HAS LEFT

  -- a row by mails has left what its client without states has
  pub left_mails : (shown : Row (Act M) (Service Q) (Outcome R)) (r : Row M Q R) → shown.service ≡ Service.Mails r.service → shown.told ≡ acts r.told → shown.heard ≡ acts r.heard →
      left (with_states x s table).speech shown ≡ acts (left x.speech r)
  left_mails shown r service told heard =
      ap (λ q. drop (length shown.told) ((with_states x s table).speech.planned q (plain (act_emission x.speech.emission) shown.heard))) service
      ∙ ap₂ (λ (n : ℕ) (hs : List (Act M)). drop n (planned_by x.speech r.service (all_mails hs))) (ap length told ∙ acts_length r.told)
      (ap (plain (act_emission x.speech.emission)) heard ∙ plain_acts x.speech.emission r.heard)
      ∙ ap (λ found. drop (length r.told) (planned_by x.speech r.service found)) (all_acts (plain x.speech.emission r.heard))
      ∙ acts_drop (length r.told) (x.speech.planned r.service (plain x.speech.emission r.heard))

  -- a state service has its control word left, until it is told
  pub left_word : (shown : Row (Act M) (Service Q) (Outcome R)) (target : ℕ) → shown.service ≡ Service.State target → shown.told ≡ [] →
      left (with_states x s table).speech shown ≡ Act.Word target ∷ []
  left_word shown target service told =
      ap₂ (λ (n : ℕ) (q : Service Q). drop n ((with_states x s table).speech.planned q (plain (act_emission x.speech.emission) shown.heard))) (ap length told) service

  pub left_none : (shown : Row (Act M) (Service Q) (Outcome R)) (target : ℕ) (a : Act M) (more : List (Act M)) → shown.service ≡ Service.State target → shown.told ≡ a ∷ more →
      left (with_states x s table).speech shown ≡ []
  left_none shown target a more service told =
      ap₂ (λ (n : ℕ) (q : Service Q). drop n ((with_states x s table).speech.planned q (plain (act_emission x.speech.emission) shown.heard))) (ap length told) service
      ∙ drop_past (Act.Word target ∷ []) more

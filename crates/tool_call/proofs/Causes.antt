-- When each status comes, by the course of a call.
use Rattle.std.proofs.Common.{◌≡◌, ℕ, ◌<◌, ◌≤◌, ◌⊎◌, List, [], ◌∷◌, length, Option, Some, None, refl, sym, ap, ◌∙◌, subst, arith, inl, inr}
use Rattle.arrayvec.specs.ArrayVec.{ArrayVec}
use Rattle.ecmbx_words.specs.of_ec_outside.Faults.{Rose}
use Rattle.ecmbx_words.specs.of_ec_outside.Files.{Table, file_of}
use Rattle.gateway_tool.specs.of_segment_plan.declared.service.Service.{Service}
use Rattle.gateway_tool.specs.declared.reply.Reply.{Reply}
use Rattle.gateway_tool.specs.declared.asking.ToolEnd.{ToolEnd}
use Rattle.gateway_tool.specs.Told.{Told}
use Rattle.gateway_tool.specs.Ended.{HasEnded}
use Rattle.ecmbx_words.specs.declared.status.Status.{Status}
use Rattle.ecmbx_words.specs.declared.status.Status.TheVariants as statuses
use Rattle.ecmbx_words.specs.Ends.{Ended, IsAmong}
use Rattle.ecmbx_words.specs.Files.{Holds, IsLong, FileCourse, Followed}
use Rattle.tool_call.specs.declared.asked.Act.{Act}
use Rattle.tool_call.specs.declared.asked.Slave.{Slave}
use Rattle.tool_call.specs.declared.asked.Asked.{Asked}
use Rattle.tool_call.specs.Asked.{asked_in, file_in}
use Rattle.tool_call.specs.Course.{limit, call_of, CallCourse, WriteCourse, ActCourse, AskCourse, ActsTo}
use Rattle.ecmbx_words.proofs.Loads.{turned}
use Rattle.tool_call.specs.Causes.{Writes, UsageCause, AbsentCause, LongCause, EndsSo, NoAnswerCause, FaultCause}

-- a status that isn't a fault of the sink is the planned one
planned_is : (s planned : Status) (text : List ℕ) (old new : Option (List ℕ)) (status : Status) → (s ≡ statuses.SinkFault → ⊥) → Ended planned text old new status → status ≡ s → planned ≡ s
planned_is s planned text old new status other (inl e) is = sym e.0 ∙ is
planned_is s planned text old new status other (inr e) is = absurd (other (sym is ∙ e.0))

either_of : (a b planned : Status) (text : List ℕ) (old new : Option (List ℕ)) (status : Status) → (planned ≡ a) ⊎ (planned ≡ b) → Ended planned text old new status → IsAmong (a ∷ b ∷ statuses.SinkFault ∷ statuses.NoMemory ∷ []) status
either_of a b planned text old new status (inl p) (inl e) = inl (e.0 ∙ p)
either_of a b planned text old new status (inr p) (inl e) = inr (inl (e.0 ∙ p))
either_of a b planned text old new status p (inr e) = inr (inr (inl e.0))

-- what is done, by what it is
pub acted_at : (s : Slave) (act act1 : Act) (file : List ℕ) (table : Option Table) (faulted still : Type 0) (first last : Told) (old new : Option (List ℕ)) (status : Status) → act ≡ act1 →
    ActsTo s act1 file table faulted still first last old new status → ActsTo s act file table faulted still first last old new status
acted_at s act act1 file table faulted still first last old new status is h = subst (λ (a : Act). ActsTo s a file table faulted still first last old new status) (sym is) h

module _ (words : List (List ℕ)) (table : Option Table) (faulted still : Type 0) (first last : Told) where
  -- what is done for the words
  pub asked_course : (a : Asked) (file : List ℕ) (old new : Option (List ℕ)) (status : Status) → asked_in words ≡ Some a → file ≡ file_in words → Followed (ActCourse a.slave a.act file table faulted still first last) old new status →
      Followed (AskCourse words table faulted still first last) old new status
  asked_course a file old new status e is h =
      turned (ActCourse a.slave a.act file table faulted still first last) (AskCourse words table faulted still first last)
      (λ planned text course. AskCourse.asked a planned text e (subst (λ (f : List ℕ). ActCourse a.slave a.act f table faulted still first last planned text) is course)) old new status h

  -- where the octets of a service come from
  abbrev Source : Asked → Type 0
  Source a = ((service : Service) × (a.act ≡ Act.Whole service)) ⊎ ((octets : List ℕ) × Holds table (file_in words) (Some octets) × (length octets ≤ limit))

  -- what a call came to
  data Came : Status → Type 0 where
    used : asked_in words ≡ None → Came statuses.Usage
    broke : faulted → Writes words → Came statuses.FileFault
    missed : Writes words → Holds table (file_in words) None → Came statuses.Absent
    grew : Writes words → IsLong limit table (file_in words) → Came statuses.TooLong
    replied : (a : Asked) (service : Service) (value : Reply) → asked_in words ≡ Some a → Source a → HasEnded (call_of a.slave service) first last value ToolEnd.Reply → Came statuses.Done
    unanswered : (a : Asked) (service : Service) (value : Reply) → asked_in words ≡ Some a → Source a → HasEnded (call_of a.slave service) first last value ToolEnd.NoAnswer → Came statuses.NoAnswer
    failed : (a : Asked) (service : Service) (value : Reply) → asked_in words ≡ Some a → Source a → HasEnded (call_of a.slave service) first last value ToolEnd.PortFault → Came statuses.PortFault

  called : (a : Asked) (service : Service) (planned : Status) (text : List ℕ) → asked_in words ≡ Some a → Source a → CallCourse (call_of a.slave service) first last planned text → Came planned
  called a service _ _ e s (CallCourse.replied value h) = Came.replied a service value e s h
  called a service _ _ e s (CallCourse.unanswered value h) = Came.unanswered a service value e s h
  called a service _ _ e s (CallCourse.failed value h) = Came.failed a service value e s h

  wrote : (a : Asked) (name : ArrayVec ℕ) (planned : Status) (text : List ℕ) → asked_in words ≡ Some a → a.act ≡ Act.Write name → WriteCourse a.slave name (file_in words) table faulted still first last planned text → Came planned
  wrote a name _ _ e f (FileCourse.fault rose u) = Came.broke rose (a, name, e, f)
  wrote a name _ _ e f (FileCourse.absent holds u) = Came.missed (a, name, e, f) holds
  wrote a name _ _ e f (FileCourse.long is u) = Came.grew (a, name, e, f) is
  wrote a name _ _ e f (FileCourse.found octets planned text holds fits course) = called a (Service.WriteFile name 0 octets) planned text e (inr (octets, holds, fits)) course

  acted : (a : Asked) (act : Act) (planned : Status) (text : List ℕ) → asked_in words ≡ Some a → a.act ≡ act → ActCourse a.slave act (file_in words) table faulted still first last planned text → Came planned
  acted a (Act.Whole service) planned text e f course = called a service planned text e (inl (service, f)) course
  acted a (Act.Write name) planned text e f course = wrote a name planned text e f course

  came : (planned : Status) (text : List ℕ) → AskCourse words table faulted still first last planned text → Came planned
  came _ _ (AskCourse.usage e u) = Came.used e
  came _ _ (AskCourse.asked a planned text e course) = acted a a.act planned text e refl course

  -- what was asked is one thing
  asked_none : (a : Asked) → asked_in words ≡ Some a → asked_in words ≡ None → ⊥
  asked_none a e n = absurd (let both : Some a ≡ None = sym e ∙ n in cc)

  writes_whole : (a : Asked) (service : Service) → asked_in words ≡ Some a → a.act ≡ Act.Whole service → Writes words → ⊥
  writes_whole a service e f (b, name, e2, f2) =
      let both : Some a ≡ Some b = sym e ∙ e2 in
      let same : a ≡ b = cc in
      let acts : Act.Whole service ≡ Act.Write name = sym f ∙ ap (λ (z : Asked). z.act) same ∙ f2 in
      absurd cc

  source_held : (files : Table) (a : Asked) → asked_in words ≡ Some a → Writes words → table ≡ Some files → Source a → (octets : List ℕ) × (file_of (file_in words) files ≡ Some octets) × (length octets ≤ limit)
  source_held files a e w t (inl s) = absurd (writes_whole a s.0 e s.1 w)
  source_held files a e w t (inr s) = (s.0, subst (λ (z : Option Table). Holds z (file_in words) (Some s.0)) t s.1, s.2)

  no_words : (planned : Status) → Came planned → asked_in words ≡ None → planned ≡ statuses.Usage
  no_words _ (Came.used e) n = refl
  no_words _ (Came.broke rose w) n = absurd (asked_none w.0 w.2 n)
  no_words _ (Came.missed w holds) n = absurd (asked_none w.0 w.2 n)
  no_words _ (Came.grew w is) n = absurd (asked_none w.0 w.2 n)
  no_words _ (Came.replied a service value e s h) n = absurd (asked_none a e n)
  no_words _ (Came.unanswered a service value e s h) n = absurd (asked_none a e n)
  no_words _ (Came.failed a service value e s h) n = absurd (asked_none a e n)

  used_words : (planned : Status) → Came planned → planned ≡ statuses.Usage → asked_in words ≡ None
  used_words _ (Came.used e) is = e
  used_words _ (Came.broke rose w) is = absurd cc
  used_words _ (Came.missed w holds) is = absurd cc
  used_words _ (Came.grew w long) is = absurd cc
  used_words _ (Came.replied a service value e s h) is = absurd cc
  used_words _ (Came.unanswered a service value e s h) is = absurd cc
  used_words _ (Came.failed a service value e s h) is = absurd cc

  missing : (planned : Status) → Came planned → planned ≡ statuses.Absent → Writes words × Holds table (file_in words) None
  missing _ (Came.missed w holds) is = (w, holds)
  missing _ (Came.used e) is = absurd cc
  missing _ (Came.broke rose w) is = absurd cc
  missing _ (Came.grew w long) is = absurd cc
  missing _ (Came.replied a service value e s h) is = absurd cc
  missing _ (Came.unanswered a service value e s h) is = absurd cc
  missing _ (Came.failed a service value e s h) is = absurd cc

  none_found : (files : Table) (a : Asked) → asked_in words ≡ Some a → Writes words → table ≡ Some files → file_of (file_in words) files ≡ None → Source a → ⊥
  none_found files a e w t n s = let held = source_held files a e w t s in absurd (let both : None ≡ Some held.0 = sym n ∙ held.1 in cc)

  not_there : (files : Table) (planned : Status) → Writes words → table ≡ Some files → file_of (file_in words) files ≡ None → Came planned → (planned ≡ statuses.Absent) ⊎ (planned ≡ statuses.FileFault)
  not_there files _ w t n (Came.used e) = absurd (asked_none w.0 w.2 e)
  not_there files _ w t n (Came.broke rose u) = inr refl
  not_there files _ w t n (Came.missed u holds) = inl refl
  not_there files _ w t n (Came.grew u long) =
      let held = subst (λ (z : Option Table). IsLong limit z (file_in words)) t long in absurd (let both : None ≡ Some held.0 = sym n ∙ held.1 in cc)
  not_there files _ w t n (Came.replied a service value e s h) = absurd (none_found files a e w t n s)
  not_there files _ w t n (Came.unanswered a service value e s h) = absurd (none_found files a e w t n s)
  not_there files _ w t n (Came.failed a service value e s h) = absurd (none_found files a e w t n s)

  too_large : (planned : Status) → Came planned → planned ≡ statuses.TooLong → Writes words × IsLong limit table (file_in words)
  too_large _ (Came.grew w long) is = (w, long)
  too_large _ (Came.used e) is = absurd cc
  too_large _ (Came.broke rose w) is = absurd cc
  too_large _ (Came.missed w holds) is = absurd cc
  too_large _ (Came.replied a service value e s h) is = absurd cc
  too_large _ (Came.unanswered a service value e s h) is = absurd cc
  too_large _ (Came.failed a service value e s h) is = absurd cc

  fits_found : (files : Table) (octets : List ℕ) (a : Asked) → asked_in words ≡ Some a → Writes words → table ≡ Some files → file_of (file_in words) files ≡ Some octets → limit < length octets → Source a → ⊥
  fits_found files octets a e w t n over s =
      let held = source_held files a e w t s in
      let both : Some octets ≡ Some held.0 = sym n ∙ held.1 in
      let same : octets ≡ held.0 = cc in
      absurd (let l = ap length same in let m = held.2 in omega (arith, l, m, over))

  is_large : (files : Table) (octets : List ℕ) (planned : Status) → Writes words → table ≡ Some files → file_of (file_in words) files ≡ Some octets → limit < length octets → Came planned → (planned ≡ statuses.TooLong) ⊎ (planned ≡ statuses.FileFault)
  is_large files octets _ w t n over (Came.used e) = absurd (asked_none w.0 w.2 e)
  is_large files octets _ w t n over (Came.broke rose u) = inr refl
  is_large files octets _ w t n over (Came.missed u holds) =
      let none = subst (λ (z : Option Table). Holds z (file_in words) None) t holds in absurd (let both : Some octets ≡ None = sym n ∙ none in cc)
  is_large files octets _ w t n over (Came.grew u long) = inl refl
  is_large files octets _ w t n over (Came.replied a service value e s h) = absurd (fits_found files octets a e w t n over s)
  is_large files octets _ w t n over (Came.unanswered a service value e s h) = absurd (fits_found files octets a e w t n over s)
  is_large files octets _ w t n over (Came.failed a service value e s h) = absurd (fits_found files octets a e w t n over s)

  no_reply : (planned : Status) → Came planned → planned ≡ statuses.NoAnswer → EndsSo words first last ToolEnd.NoAnswer
  no_reply _ (Came.unanswered a service value e s h) is = (a, service, value, e, h)
  no_reply _ (Came.used e) is = absurd cc
  no_reply _ (Came.broke rose w) is = absurd cc
  no_reply _ (Came.missed w holds) is = absurd cc
  no_reply _ (Came.grew w long) is = absurd cc
  no_reply _ (Came.replied a service value e s h) is = absurd cc
  no_reply _ (Came.failed a service value e s h) is = absurd cc

  port_failed : (planned : Status) → Came planned → planned ≡ statuses.PortFault → EndsSo words first last ToolEnd.PortFault × Rose first.faults last.faults
  port_failed _ (Came.failed a service value e s h) is = ((a, service, value, e, h), h.causes.3)
  port_failed _ (Came.used e) is = absurd cc
  port_failed _ (Came.broke rose w) is = absurd cc
  port_failed _ (Came.missed w holds) is = absurd cc
  port_failed _ (Came.grew w long) is = absurd cc
  port_failed _ (Came.replied a service value e s h) is = absurd cc
  port_failed _ (Came.unanswered a service value e s h) is = absurd cc

  file_failed : (planned : Status) → Came planned → planned ≡ statuses.FileFault → faulted
  file_failed _ (Came.broke rose w) is = rose
  file_failed _ (Came.used e) is = absurd cc
  file_failed _ (Came.missed w holds) is = absurd cc
  file_failed _ (Came.grew w long) is = absurd cc
  file_failed _ (Came.replied a service value e s h) is = absurd cc
  file_failed _ (Came.unanswered a service value e s h) is = absurd cc
  file_failed _ (Came.failed a service value e s h) is = absurd cc

  module _ (old new : Option (List ℕ)) (status : Status) where
    pub usage_cause : Followed (AskCourse words table faulted still first last) old new status → UsageCause words status
    usage_cause (inl memory) = (λ is. absurd cc, λ n. inr (inr (inl memory)))
    usage_cause (inr (planned, text, c, ended)) = (
      λ is. used_words planned (came planned text c) (planned_is statuses.Usage planned text old new status (λ sink. cc) ended is),
      λ n. among (no_words planned (came planned text c) n) ended,
    )
      where
        among : planned ≡ statuses.Usage → Ended planned text old new status → IsAmong (statuses.Usage ∷ statuses.SinkFault ∷ statuses.NoMemory ∷ []) status
        among p (inl e) = inl (e.0 ∙ p)
        among p (inr e) = inr (inl e.0)

    pub absent_cause : Followed (AskCourse words table faulted still first last) old new status → AbsentCause words table status
    absent_cause (inl memory) = (λ is. absurd cc, λ files w t n. inr (inr (inr (inl memory))))
    absent_cause (inr (planned, text, c, ended)) = (
      λ is. missing planned (came planned text c) (planned_is statuses.Absent planned text old new status (λ sink. cc) ended is),
      λ files w t n. either_of statuses.Absent statuses.FileFault planned text old new status (not_there files planned w t n (came planned text c)) ended,
    )

    pub long_cause : Followed (AskCourse words table faulted still first last) old new status → LongCause words table status
    long_cause (inl memory) = (λ is. absurd cc, λ files octets w t n over. inr (inr (inr (inl memory))))
    long_cause (inr (planned, text, c, ended)) = (
      λ is. too_large planned (came planned text c) (planned_is statuses.TooLong planned text old new status (λ sink. cc) ended is),
      λ files octets w t n over. either_of statuses.TooLong statuses.FileFault planned text old new status (is_large files octets planned w t n over (came planned text c)) ended,
    )

    pub no_answer_cause : Followed (AskCourse words table faulted still first last) old new status → NoAnswerCause words first last status
    no_answer_cause (inl memory) is = absurd cc
    no_answer_cause (inr (planned, text, c, ended)) is = no_reply planned (came planned text c) (planned_is statuses.NoAnswer planned text old new status (λ sink. cc) ended is)

    pub port_cause : Followed (AskCourse words table faulted still first last) old new status → FaultCause words first last status
    port_cause (inl memory) is = absurd cc
    port_cause (inr (planned, text, c, ended)) is = port_failed planned (came planned text c) (planned_is statuses.PortFault planned text old new status (λ sink. cc) ended is)

    pub file_cause : Followed (AskCourse words table faulted still first last) old new status → status ≡ statuses.FileFault → faulted
    file_cause (inl memory) is = absurd cc
    file_cause (inr (planned, text, c, ended)) is = file_failed planned (came planned text c) (planned_is statuses.FileFault planned text old new status (λ sink. cc) ended is)

-- What keeps a lane open, and what its end shows.
use Rattle.std.proofs.Common.{◌≡◌, ◌∙◌, ◌≤◌, Bool, true, false, List, [], ◌∷◌, ◌++◌, length-append, sym, refl, ap, subst, arith}
use Rattle.crossbeam_queue.specs.Passes.{Pass, view, IsSamePass}
use Rattle.bf_try.specs.Asked.{Asked}
use Rattle.bf_lane.specs.declared.messages.Job.{Job}
use Rattle.bf_lane.specs.declared.messages.Job.TheVariants.{Run, Stop}
use Rattle.bf_lane.specs.declared.queues.Queues.{Queues}
use Rattle.bf_lane.specs.declared.relay.Log.{Log}
use Rattle.bf_lane.specs.Relay.{log}
use Rattle.std.proofs.lemmas.List.{append-nil}
use Rattle.std.proofs.Common.{All}
use Rattle.bf_value.specs.declared.name.JobName.{JobName}
use Rattle.bf_xcom.specs.declared.values.Given.{Given}
use Rattle.bf_try.specs.declared.answers.Raw.{Raw}
use Rattle.bf_lane.specs.declared.messages.Answer.{Answer}
use Rattle.bf_lane.specs.Lanes.{asked, answered, all_runs, Answers, IsClosed, IsAllowedBy}
use Rattle.bf_lane.specs.Open.{IsOpen, awaits, scheduled}
use Rattle.std.proofs.lemmas.Bool.{ltb-false}
use Rattle.bf_lane.proofs.Serving.{same_of, all_runs_run, asked_append}

pub open_submitted : {K : Type 0} (q theirs : Queues K) (p s : Pass Job (Log Job)) (r : Pass Answer (Log Answer)) (t : Asked) → IsOpen q theirs p r false
    → IsSamePass p s → view s ≡ log (view p).puts (view p).takes ((view p).put ++ Run t ∷ []) (view p).taken
    → IsOpen q theirs s r true
open_submitted q theirs p s r t h ls e =
    let put : (view s).put ≡ (view p).put ++ Run t ∷ [] = ap (λ (v : Log Job). v.put) e in
    record {
      of_jobs = same_of q.jobs p s h.of_jobs ls;
      of_results = h.of_results;
      puts_are = e ∙ (λ i. log (h.puts_are i).puts (h.puts_are i).takes (sym put i) (h.puts_are i).taken);
      gathers_are = h.gathers_are;
      runs = rw put (all_runs_run (view p).put t h.runs);
      queues_are = h.queues_are;
      one_awaited = rw put (omega (arith, length-append (view p).put (Run t ∷ []), h.one_awaited));
    }

-- a lane that awaits no answer isn't marked as busy
pub is_idle : {K : Type 0} (q theirs : Queues K) (p : Pass Job (Log Job)) (r : Pass Answer (Log Answer)) (busy : Bool) → IsOpen q theirs p r busy
    → awaits (scheduled (view p).put (view r).taken) ≡ false → IsOpen q theirs p r false
is_idle q theirs p r true h idle = absurd (omega (arith, h.one_awaited, ltb-false _ _ idle))
is_idle q theirs p r false h idle = h

abbrev rest_of : List Job → List Job
rest_of [] = []
rest_of (j ∷ js) = js

abbrev try_of : Asked → List Job → Asked
try_of d [] = d
try_of d (Run t ∷ js) = t
try_of d (Stop ∷ js) = d

-- after a stop nothing is left
pub nothing_left : (before taken items : List Job) → all_runs before ≡ true → all_runs taken ≡ true → before ++ Stop ∷ [] ≡ (taken ++ Stop ∷ []) ++ items
    → (items ≡ []) × (before ≡ taken)
nothing_left [] [] items b t e = (sym (ap rest_of e), refl)
nothing_left [] (Run x ∷ taken) items b t e = cc
nothing_left [] (Stop ∷ taken) items b t e = cc
nothing_left (Run y ∷ before) [] items b t e = cc
nothing_left (Run y ∷ before) (Run x ∷ taken) items b t e =
    let h = nothing_left before taken items b t (ap rest_of e) in (h.0, λ i. Run (ap (try_of y) e i) ∷ h.1 i)
nothing_left (Run y ∷ before) (Stop ∷ taken) items b t e = cc
nothing_left (Stop ∷ before) taken items b t e = cc

module _ (may_answer : JobName → Given → Raw → Type 0) (may_give_up : JobName → Given → Type 0) where
  pub closing : (submitted before items : List Job) (sent gathered : List Answer) → all_runs submitted ≡ true → all_runs before ≡ true
      → submitted ++ Stop ∷ [] ≡ (before ++ Stop ∷ []) ++ items → Answers may_answer may_give_up before sent → sent ≡ gathered
      → IsClosed may_answer may_give_up (record { submitted = submitted ++ Stop ∷ []; taken = before ++ Stop ∷ []; sent = sent; gathered = gathered })
  closing submitted before items sent gathered s b e h same =
      let all : submitted ≡ before = (nothing_left submitted before items s b e).1 in
      let stopped : (js : List Job) → asked (js ++ Stop ∷ []) ≡ asked js = λ js. asked_append js (Stop ∷ []) ∙ append-nil (asked js) in
      let sent_is : answered sent ≡ asked (submitted ++ Stop ∷ []) = h.same ∙ ap asked (sym all) ∙ sym (stopped submitted) in
      record {
        taken_is = ap (λ js. js ++ Stop ∷ []) (sym all);
        sent_all = sent_is;
        gathered_all = ap answered (sym same) ∙ sent_is;
        allowed = subst (All (IsAllowedBy may_answer may_give_up)) same h.allowed;
      }

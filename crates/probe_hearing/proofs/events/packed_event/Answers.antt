use native.Mathlib.Omega.{arith}
use Rattle.probe_hearing.proofs.events.packed_event.Goals as goal

pub overflow_mul-result : goal.overflow_mul-result
overflow_mul-result c = let w = rw c.in-Offer.is at c.requires in omega arith

pub overflow_cast-result : goal.overflow_cast-result
overflow_cast-result c = let w = rw c.in-Offer.is at c.requires in omega arith

pub overflow_mul-result-in-Refusal : goal.overflow_mul-result-in-Refusal
overflow_mul-result-in-Refusal c = let w = rw c.in-Refusal.is at c.requires in omega arith

pub overflow_add-result : goal.overflow_add-result
overflow_add-result c = let w = rw c.in-Refusal.is at c.requires in omega arith

pub overflow_cast-result-in-Refusal : goal.overflow_cast-result-in-Refusal
overflow_cast-result-in-Refusal c = let w = rw c.in-Refusal.is at c.requires in omega arith

pub returns-in-Offer : goal.returns-in-Offer
returns-in-Offer c = rw c.in-Offer.is

pub returns-in-Refusal : goal.returns-in-Refusal
returns-in-Refusal c = rw c.in-Refusal.is

mod PartLemmas
mod OpenClaims
mod RunBeginnings
mod BatchBeginnings
mod FirstMarks
mod RouteLaws
mod RunLaws

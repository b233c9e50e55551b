-- Templates, the points of programs where the typing rules take them, and programs with their points.
mod PointsLemmas
mod TemplatesLemmas

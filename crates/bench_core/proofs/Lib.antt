mod LeftDeadlines
